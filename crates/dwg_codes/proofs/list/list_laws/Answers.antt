use Rattle.dwg_grammar.specs.Grammar.{AnyLetters}
use Rattle.dwg_grammar.proofs.CodeLemmas.{lawful_of_code}
use Rattle.dwg_grammar.proofs.CombinatorLemmas.{any_letters_closed}
use Rattle.dwg_grammar.proofs.ListLemmas.{items_is_code}
use Rattle.dwg_grammar.proofs.ToEndLemmas.{cut_uniquely}
use Rattle.dwg_codes.proofs.list.list_laws.Goals as goal

pub returns-clause-counted : goal.returns-clause-counted
returns-clause-counted g c = lawful_of_code AnyLetters _ (items_is_code AnyLetters _ c.args.count any_letters_closed (g.met.C.BitCode.laws c.args.context.now c.requires.context))

pub returns-clause-cut : goal.returns-clause-cut
returns-clause-cut g c = cut_uniquely AnyLetters c.args.least _ (g.met.C.BitCode.laws c.args.context.now c.requires.context) c.requires.least
