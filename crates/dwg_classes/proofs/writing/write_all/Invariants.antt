use Rattle.std.proofs.Common.{drop}
use Rattle.dwg_classes.proofs.ClassWriting.{AreWrittenSoFar}
use Rattle.dwg_classes.proofs.writing.write_all.Given as goal

-- what is written so far and the classes that are left give the whole
abbrev pub invariant-classes : goal.invariant-classes
invariant-classes l = AreWrittenSoFar l.classes (drop l.class-index l.classes) l.fn.sink l.sink
