use Rattle.std.proofs.Common.{arith}
use Rattle.dwg_objmap.proofs.Counting.{counted_all}
use Rattle.dwg_objmap.proofs.length.map_length.Goals as goal

pub returns-clause-length : goal.returns-clause-length
returns-clause-length c =
    counted_all c.pairs.count.sent c.pairs.count.size c.pairs.pair-index c.count_end.result c.pairs.count.last c.args.pairs.now c.count_end.ensures.length c.pairs.invariant.whole (omega arith)

pub returns-clause-within : goal.returns-clause-within
returns-clause-within c = omega (arith, c.count_end.ensures.within, c.pairs.invariant.few)
