use Rattle.std.proofs.Common.{arith}
use Rattle.dwg_recover.proofs.CandidatesAlong.{candidates_on, candidates_over}
use Rattle.dwg_recover.proofs.candidates.candidates.Goals as goal

pub pairs-preserved : goal.pairs-preserved
pairs-preserved g c = (
  candidates_on c.args.bytes.now c.pairs.index c.args.pairs.now _ _ c.candidate.result _ _ _ c.pairs-test.true c.index-pairs-index.is c.candidate.ensures.frame c.in_ok-frames.ensures c.pairs.invariant.0,
  omega (arith, c.pairs.invariant.1, c.candidate.ensures.steps),
)

pub returns-clause-frames : goal.returns-clause-frames
returns-clause-frames g c = candidates_over c.args.bytes.now c.pairs.index c.args.pairs.now _ _ c.pairs-test.false c.pairs.invariant.0
