-- Words that spell numbers, as std reads them.
use Rattle.std.proofs.Common.{◌≡◌, refl, sym, ap, ◌∙◌, ℕ, zero, suc, ◌<◌, ◌≤◌, ◌^◌, List, length, get_or, Bool, true, false, Option, Some, None, IfSome, arith}
use Rattle.std.specs.Prelude.{Result, ◌&&◌, nat_lt, if◌then◌else◌}
use Rattle.std.specs.Result.{result_ok, OkIff}
use Rattle.std.specs.Char.{is_ascii_digit}
use Rattle.std.specs.List.{list_all}
use Rattle.std.specs.Fmt.{decimal}
use Rattle.std.specs.Str.Parse.{digits_value, ParsesUnsigned}
use Rattle.std.specs.declared.result.Result.TheVariants.{Ok, Err}
use Rattle.std.proofs.lemmas.Bool.{and_parts}
use Rattle.std.proofs.lemmas.Bool.Decides.{nat_tests}
use Rattle.std.proofs.lemmas.Str.Parse.{IsDigitsTest, IsNumeralModel, numerals_by_value, parse_digits}
use Rattle.std.proofs.lemmas.Fmt.{decimal_nonempty, length-decimal-le, first_decimal, decimal_digit, digits_decimal, digits_value-decimal, decimal-digits_value}
use Rattle.dwg_commands.specs.Words.{is_numeral, number_of}

-- the test of digits is std's
digits_test : IsDigitsTest (λ word. list_all is_ascii_digit word ≡ true)
digits_test = record {
  empty = refl;
  parts = λ c cs test. let both = and_parts (is_ascii_digit c) (list_all is_ascii_digit cs) test in (grind (arith, nat_tests, both.0), both.1);
  more = λ c cs within test. grind (arith, nat_tests, within, test);
}

-- and so is the value
digits : IsNumeralModel (λ word. list_all is_ascii_digit word ≡ true) (digits_value 10)
digits = numerals_by_value _ digits_test

-- what the test of a numeral says of a word
record Numeral (word : List ℕ) : Type 0 where
  pub some : 0 < length word
  pub few : length word ≤ 10
  pub tested : list_all is_ascii_digit word ≡ true
  pub lead : get_or word 0 0 ≡ 48 → length word ≡ 1

-- it says so
of_numeral : (word : List ℕ) → is_numeral word ≡ true → Numeral word
unfolding is_numeral
of_numeral word test = record {
  some = grind (arith, nat_tests, test);
  few = grind (arith, nat_tests, test);
  tested = grind (arith, nat_tests, test);
  lead = grind (arith, nat_tests, test);
}

-- and of no other word
numeral_of : (word : List ℕ) → Numeral word → is_numeral word ≡ true
unfolding is_numeral
numeral_of word is = grind (arith, nat_tests, is.some, is.few, is.tested, is.lead)

-- the text of a number is a numeral
numeral_of_decimal : (value : ℕ) → value < 2 ^ 32 → is_numeral (decimal value) ≡ true
numeral_of_decimal value small = numeral_of (decimal value) (record {
  some = decimal_nonempty value (omega arith);
  few = length-decimal-le 10 value (omega arith) (omega arith) (omega arith);
  tested = digits_decimal digits value (omega arith);
  lead = lead value small;
})
  where
    lead : (n : ℕ) → n < 2 ^ 32 → get_or (decimal n) 0 0 ≡ 48 → length (decimal n) ≡ 1
    lead zero small first = ap length (decimal_digit 0 (omega arith))
    lead (suc n) small first = absurd (omega (arith, first_decimal (suc n) (omega arith) (omega arith)))

-- the number of a word that is a numeral of a small value
number_of_small : (word : List ℕ) → is_numeral word ≡ true → digits_value 10 word < 2 ^ 32 → number_of word ≡ Some (digits_value 10 word)
unfolding number_of
number_of_small word test small =
    let fits : nat_lt (digits_value 10 word) (2 ^ 32) ≡ true = grind (arith, nat_tests) in
    rw (test, fits)

-- a numeral of a larger value spells no number
number_of_large : (word : List ℕ) → is_numeral word ≡ true → ¬ (digits_value 10 word < 2 ^ 32) → number_of word ≡ None
unfolding number_of
number_of_large word test large =
    let over : nat_lt (digits_value 10 word) (2 ^ 32) ≡ false = grind (arith, nat_tests, large) in
    rw (test, over)

-- nor does a word that is no numeral
pub number_of_none : (word : List ℕ) → is_numeral word ≡ false → None ≡ number_of word
unfolding number_of
number_of_none word test = rw test

-- the text of a number spells it
pub number_of_decimal : (value : ℕ) → value < 2 ^ 32 → number_of (decimal value) ≡ Some value
number_of_decimal value small =
    let same : digits_value 10 (decimal value) ≡ value = digits_value-decimal digits value (omega arith) in
    number_of_small (decimal value) (numeral_of_decimal value small) (omega (arith, same)) ∙ ap (λ n. Some n) same

-- what `parse` reads of a numeral is its number
module _ {E : Type 0} (word : List ℕ) (test : is_numeral word ≡ true) where
  of_read : (read : Result ℕ E) → OkIff read ((0 < length word) × (digits_value 10 word < 2 ^ 32)) (digits_value 10 word) → result_ok read ≡ number_of word
  of_read (Ok value) reported = ap (λ n. Some n) reported.1 ∙ sym (number_of_small word test reported.0.1)
  of_read (Err error) reported = sym (number_of_large word test (λ small. reported ((of_numeral word test).some, small)))

  pub parsed : (read : Result ℕ E) → ParsesUnsigned 32 10 word read → result_ok read ≡ number_of word
  parsed read parses = of_read read (parse_digits digits 32 word read parses (of_numeral word test).tested)

-- a numeral of a small value is the text of its value
decimal_of : (word : List ℕ) → is_numeral word ≡ true → digits_value 10 word < 2 ^ 32 → word ≡ decimal (digits_value 10 word)
decimal_of word test small = let is = of_numeral word test in sym (decimal-digits_value digits word is.tested is.some is.lead (omega arith))

-- a number that a word spells has it for its text
pub spelled : (word : List ℕ) (result : Option ℕ) → result ≡ number_of word → IfSome result (λ value. word ≡ decimal value)
unfolding number_of
spelled word None is = tt
spelled word (Some value) is = of_tests (is_numeral word) (nat_lt (digits_value 10 word) (2 ^ 32)) refl refl is
  where
    of_tests : (test fits : Bool) → is_numeral word ≡ test → nat_lt (digits_value 10 word) (2 ^ 32) ≡ fits
        → Some value ≡ (if test && fits then Some (digits_value 10 word) else None) → word ≡ decimal value
    of_tests false fits tested fitted is = absurd cc
    of_tests true false tested fitted is = absurd cc
    of_tests true true tested fitted is =
        let same : digits_value 10 word ≡ value = cc in
        decimal_of word tested (grind (arith, nat_tests, fitted)) ∙ ap decimal same
