use Rattle.std.proofs.Common.{◌-◌, length}
use Rattle.dwg_recover.specs.KeptObjects.{HoldsObjects, IsScanned}
use Rattle.dwg_recover.proofs.scan.with_scanned.Given as goal

-- the scan is along, and each frame that is kept has its object
abbrev pub invariant-frames : goal.invariant-frames
invariant-frames g l = record {
  scanned : IsScanned l.hints l.bytes l.fn.kept.frames 0 l.kept.frames l.place l.initial.steps l.steps;
  objects : HoldsObjects l.hints l.bytes l.kept;
}

abbrev pub decreases-frames : goal.decreases-frames
decreases-frames g l = length l.bytes - l.place
