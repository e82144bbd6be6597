-- The counts of marks are a code.
use Rattle.std.proofs.Common.{refl, arith}
use Rattle.std.specs.Prelude.{◌==◌}
use Rattle.std.proofs.lemmas.Bool.Decides.{nat_tests}
use Rattle.dwg_grammar.specs.Codes.{rc}
use Rattle.dwg_grammar.specs.Combinators.{always}
use Rattle.dwg_grammar.proofs.CombinatorLemmas.{any_letters_closed, always_is_code}
use Rattle.dwg_grammar.specs.Grammar.{IsCode, AnyLetters}
use Rattle.dwg_grammar.proofs.ListLemmas.{until_is_code}
use Rattle.dwg_grammar.proofs.NumberLemmas.{rc_is_code}
use Rattle.dwg_tables.specs.InsertMarks.{IsMarkCount, mark_counts}

-- the counts are a code
pub mark_counts_is_code : IsCode AnyLetters mark_counts
unfolding mark_counts
mark_counts_is_code =
    until_is_code AnyLetters rc 0 (λ count. count == 0) (λ count. always count) (λ count. count) IsMarkCount any_letters_closed record {
      tag_is_code = rc_is_code;
      item_is_code = λ tag fits other. always_is_code AnyLetters tag;
      mark_is_tag = omega arith;
      mark_passes = refl;
      only_mark_passes = λ tag fits passed. grind (arith, nat_tests);
      some_letters = λ tag prefix spelled. omega (arith, spelled.0);
      value_is_item = λ tag count fits other same. (record { some = omega (arith, other, same); few = omega (arith, fits, same) }, same);
      item_is_value = λ count is. (is.few, (λ none. omega (arith, is.some, none)), refl);
    }
