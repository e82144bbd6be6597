use Rattle.dwg_grammar.proofs.BodyReading.{parsed_when}
use Rattle.dwg_common.proofs.part_reading.parse_when.Goals as goal

pub returns-clause-parsed : goal.returns-clause-parsed
returns-clause-parsed g c = parsed_when (g.C.BitCode.grammar c.args.context.now) c.args.present _ _ _ (g.met.C.BitCode.laws c.args.context.now c.requires) c.read_when.ensures.reads
