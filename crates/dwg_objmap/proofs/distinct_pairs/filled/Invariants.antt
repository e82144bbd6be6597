use Rattle.std.proofs.Common.{take}
use Rattle.dwg_objmap.specs.DistinctPairs.{HasHandles}
use Rattle.dwg_objmap.proofs.distinct_pairs.filled.Given as goal

-- the set has the handles of the pairs so far
abbrev pub invariant-pairs : goal.invariant-pairs
invariant-pairs l = HasHandles l.handles (take l.pair-index l.pairs)
