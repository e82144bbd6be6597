use Rattle.dwg_grammar.proofs.BodyReading.{parsed}
use Rattle.dwg_common.proofs.part_reading.parse_code.Goals as goal

pub returns-clause-parsed : goal.returns-clause-parsed
returns-clause-parsed g c = parsed (g.C.BitCode.grammar c.args.context.now) _ _ _ (g.met.C.BitCode.laws c.args.context.now c.requires) c.read.ensures.reads
