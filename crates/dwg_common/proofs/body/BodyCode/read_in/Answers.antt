use Rattle.dwg_grammar.proofs.BodyReading.{body_value}
use Rattle.dwg_common.proofs.body.BodyCode.read_in.Goals as goal

pub returns-clause-value : goal.returns-clause-value
returns-clause-value g c =
    body_value c.args.base (g.Self.BodyCode.grammar c.args.layout c.args.base) c.in_ok-value.field-0 c.in-Some.value _ _ _ _
    (g.met.Self.BodyCode.laws c.args.layout c.args.base (search) (search)) c.in-Some.is c.in_ok-value.ensures.parsed
