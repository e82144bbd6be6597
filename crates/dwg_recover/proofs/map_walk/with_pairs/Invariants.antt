use Rattle.std.proofs.Common.{◌≡◌, ◌++◌, drop}
use Rattle.dwg_recover.proofs.map_walk.with_pairs.Given as goal

-- what was put and what is left give the whole
abbrev pub invariant-pairs : goal.invariant-pairs
invariant-pairs l = l.pairs ++ drop l.pair-index l.others ≡ l.fn.pairs ++ l.others
