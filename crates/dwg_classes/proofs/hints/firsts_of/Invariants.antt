use Rattle.std.proofs.Common.{drop}
use Rattle.dwg_classes.proofs.FirstHints.{AreNoted}
use Rattle.dwg_classes.proofs.hints.firsts_of.Given as goal

-- what is noted so far, and then the classes that are left, say what all classes say
abbrev pub invariant-classes : goal.invariant-classes
invariant-classes l = AreNoted l.classes (drop l.class-index l.classes) l.firsts
