use Rattle.std.proofs.Common.{◌≡◌, ◌++◌, drop}
use Rattle.dwg_recover.specs.MapFrames.{all_numbered}
use Rattle.dwg_recover.proofs.recovery.all_numbered.Given as goal

-- what was put and what is left are all
abbrev pub invariant-frames : goal.invariant-frames
invariant-frames l = l.all.items ++ all_numbered l.index (drop l.index l.frames) ≡ all_numbered 0 l.frames
