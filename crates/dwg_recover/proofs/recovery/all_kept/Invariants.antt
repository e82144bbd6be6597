use Rattle.std.proofs.Common.{◌≡◌, ◌++◌, drop, map}
use Rattle.dwg_recover.specs.Frames.{kept_of}
use Rattle.dwg_recover.proofs.recovery.all_kept.Given as goal

-- what is put and what is left are all
abbrev pub invariant-frames : goal.invariant-frames
invariant-frames l = l.kept ++ map kept_of (drop l.frame-index l.frames) ≡ map kept_of l.frames
