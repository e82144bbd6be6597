use Rattle.dwg_recover.proofs.LossesAlong.{pairs_on, pairs_over}
use Rattle.dwg_recover.proofs.losses.with_lost_pairs.Goals as goal

pub pairs-preserved : goal.pairs-preserved
pairs-preserved c =
    pairs_on c.args.kept.now c.pairs.index c.args.pairs.now _ _ _ _ _ c.pairs-test.true c.index-pairs-index.is c.in_ok-losses.ensures c.pairs.invariant

pub returns : goal.returns
returns c = pairs_over c.args.kept.now c.pairs.index c.args.pairs.now _ _ c.pairs-test.false c.pairs.invariant
