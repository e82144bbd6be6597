use Rattle.dwg_file.proofs.Ascending.{AscendTo}
use Rattle.dwg_file.proofs.objects.are_sorted.Given as goal

-- the objects so far do not fall, and none is after the last
abbrev pub invariant-objects : goal.invariant-objects
invariant-objects l = AscendTo l.objects l.object-index l.last
