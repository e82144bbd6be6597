use Rattle.dwg_grammar.proofs.BodyLemmas.{lawful_of_body}
use Rattle.dwg_common.proofs.body.body_laws.Goals as goal

pub returns : goal.returns
returns g c = λ layout base few small. lawful_of_body base _ (g.met.B.BodyCode.laws layout base few small)
