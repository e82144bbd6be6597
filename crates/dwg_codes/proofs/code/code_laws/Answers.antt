use Rattle.dwg_grammar.specs.Grammar.{AnyLetters}
use Rattle.dwg_grammar.proofs.CodeLemmas.{lawful_of_code}
use Rattle.dwg_codes.proofs.code.code_laws.Goals as goal

pub returns : goal.returns
returns g c = lawful_of_code AnyLetters _ (g.met.C.BitCode.laws c.args.context.now c.requires)
