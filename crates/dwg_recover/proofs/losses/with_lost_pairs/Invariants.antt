use Rattle.std.proofs.Common.{◌≡◌, ◌++◌, drop}
use Rattle.dwg_recover.specs.Frames.{lost_pairs}
use Rattle.dwg_recover.proofs.losses.with_lost_pairs.Given as goal

-- what was put and what is left give the whole
abbrev pub invariant-pairs : goal.invariant-pairs
invariant-pairs l = l.losses ++ lost_pairs l.kept l.index (drop l.index l.pairs) ≡ l.fn.losses ++ lost_pairs l.kept 0 l.pairs
