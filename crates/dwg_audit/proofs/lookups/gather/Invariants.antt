use Rattle.std.proofs.Common.{map, take}
use Rattle.dwg_audit.specs.Lookups.{AreGathered}
use Rattle.dwg_object.specs.Objects.{value_of}
use Rattle.dwg_audit.proofs.lookups.gather.Given as goal

-- what the objects so far refer to is gathered
abbrev pub invariant-objects : goal.invariant-objects
invariant-objects l = AreGathered (take l.object-index (map value_of l.objects)) l.known l.gathered
