use Rattle.std.proofs.Common.{◌≡◌, ◌++◌, ◌+◌, ◌*◌, ◌≤◌, drop}
use Rattle.dwg_recover.specs.Frames.{candidates}
use Rattle.dwg_recover.proofs.candidates.candidates.Given as goal

-- what was found and what is left give the whole, and each pair took so many steps
abbrev pub invariant-pairs : goal.invariant-pairs
invariant-pairs g l = (l.frames.items ++ candidates l.bytes l.index (drop l.index l.pairs) ≡ candidates l.bytes 0 l.pairs) × (l.steps ≤ l.initial.steps + 15 * l.index)
