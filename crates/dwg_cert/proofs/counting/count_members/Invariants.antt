use Rattle.std.proofs.Common.{map}
use Rattle.dwg_cert.specs.Checked.{CountsMembers}
use Rattle.dwg_object.specs.Objects.{value_of}
use Rattle.dwg_cert.proofs.counting.count_members.Given as goal

-- the objects so far are counted
abbrev pub invariant-objects : goal.invariant-objects
invariant-objects l = CountsMembers (map value_of l.objects) l.known l.place l.counts.items
