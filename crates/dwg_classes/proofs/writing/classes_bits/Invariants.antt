use Rattle.std.proofs.Common.{drop}
use Rattle.dwg_classes.proofs.ClassWriting.{AreCounted}
use Rattle.dwg_classes.proofs.writing.classes_bits.Given as goal

-- what is counted so far and the classes that are left give the whole
abbrev pub invariant-classes : goal.invariant-classes
invariant-classes l = AreCounted l.classes (drop l.class-index l.classes) l.bits
