use Rattle.std.proofs.Common.{arith}
use Rattle.dwg_common.proofs.TwoRefsReading.{two_refs_value}
use Rattle.dwg_common.proofs.two_refs.CodeTwoRefsBitCode.read.Goals as goal

pub returns-clause-value : goal.returns-clause-value
returns-clause-value c = two_refs_value c.args.context.now c.in_ok-both.both _ _ (omega (arith, c.value-base.ensures.bound, c.value-base.ensures.value)) c.in_ok-both.ensures.parsed
