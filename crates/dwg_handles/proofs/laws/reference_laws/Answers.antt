use Rattle.dwg_grammar.specs.Grammar.{AnyLetters}
use Rattle.dwg_grammar.proofs.CodeLemmas.{lawful_of_code}
use Rattle.dwg_grammar.specs.Combinators.{items}
use Rattle.dwg_grammar.proofs.CombinatorLemmas.{any_letters_closed}
use Rattle.dwg_grammar.proofs.ListLemmas.{items_is_code}
use Rattle.dwg_grammar.proofs.ToEndLemmas.{cut_uniquely}
use Rattle.dwg_grammar.specs.ReferenceCodes.{reference, own_handle}
use Rattle.dwg_grammar.proofs.ReferenceLemmas.{reference_is_code, reference_spelled, reached_where_spelled, reference_least}
use Rattle.dwg_grammar.proofs.OwnLemmas.{own_is_code, own_spelled}
use Rattle.dwg_handles.proofs.laws.reference_laws.Goals as goal

pub returns : goal.returns
unfolding reference own_handle
returns c =
    record {
      lawful = λ base small. lawful_of_code AnyLetters (reference base) (reference_is_code base small);
      values = λ base value. ((λ is. is), (λ reached. reached));
      spelled = reference_spelled;
      reached = reached_where_spelled;
      least = reference_least;
      cut = λ base small. cut_uniquely AnyLetters 8 (reference base) (reference_is_code base small) (reference_least base);
      lists = λ base count small. lawful_of_code AnyLetters (items (reference base) count) (items_is_code AnyLetters (reference base) count any_letters_closed (reference_is_code base small));
      own_lawful = lawful_of_code AnyLetters own_handle own_is_code;
      own_values = λ own. ((λ is. is), (λ fits. fits));
      own_spelled = own_spelled;
    }
