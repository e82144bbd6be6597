use Rattle.std.proofs.Common.{◌-◌, length}
use Rattle.dwg_recover.specs.KeptObjects.{IsScanned}
use Rattle.dwg_recover.proofs.scan.next_scanned.Given as goal

-- nothing was kept of the places that were passed
abbrev pub invariant-places : goal.invariant-places
invariant-places g l = record { scanned : IsScanned l.hints l.bytes l.kept l.from l.kept l.place l.initial.steps l.steps }

abbrev pub decreases-places : goal.decreases-places
decreases-places g l = length l.bytes - l.place
