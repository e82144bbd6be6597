-- Numbers after the count of their bytes: what spells them, and that they are a code.
use Rattle.std.proofs.Common.{◌≡◌, refl, sym, ◌∙◌, ap, ap₂, subst, ℕ, zero, suc, ◌+◌, ◌*◌, ◌^◌, ◌<◌, ◌≤◌, Bool, true, false, List, ◌++◌, length, arith, lit<}
use Rattle.std.specs.Prelude.{◌≢◌, nat_lt, nat_le, find, unwrap_or, Option, Some, cond}
use Rattle.std.specs.List.{range_with_len}
use Rattle.std.proofs.Math.Nat.{pow-le-pow_right}
use Rattle.std.proofs.lemmas.List.{append-nil}
use Rattle.std.proofs.lemmas.Bool.Decides.{nat_tests}
use Rattle.dwg_bits.specs.Bits.{low_bits, num}
use Rattle.dwg_bits.proofs.BitLaws.{length_of_low_bits, num_of_low_bits, low_bits_of_num, num_fits}
use Rattle.dwg_grammar.specs.Grammar.{IsCode, AnyLetters}
use Rattle.dwg_grammar.specs.Combinators.{fixed}
use Rattle.dwg_grammar.proofs.CombinatorLemmas.{any_letters_closed, fixed_is_code, restrict_is_code, tagged_is_code}
use Rattle.dwg_grammar.specs.ReferenceCodes.{byte_count, byte_counts, counted_number, no_bytes}

-- the first of some numbers that passes a test, or the last, passes it where the last does
first_passes : (p : ℕ → Bool) (from left last : ℕ) → p last ≡ true → p (unwrap_or (find p (range_with_len from left)) last) ≡ true
first_passes p from zero last passed = passed
first_passes p from (suc left) last passed = by_test (find p (range_with_len (from + 1) left)) (p from) refl (first_passes p (from + 1) left last passed)
  where
    by_test : (found : Option ℕ) (test : Bool) → p from ≡ test → p (unwrap_or found last) ≡ true → p (unwrap_or (cond test (Some from) found) last) ≡ true
    by_test found true here later = here
    by_test found false here later = later

-- it is no greater than another that passes
first_least : (p : ℕ → Bool) (from left last at : ℕ) → from + left ≡ last → from ≤ at → at ≤ last → p at ≡ true → unwrap_or (find p (range_with_len from left)) last ≤ at
first_least p from zero last at same after within passed = omega arith
first_least p from (suc left) last at same after within passed =
    by_test (find p (range_with_len (from + 1) left)) (p from) refl (λ more. first_least p (from + 1) left last at (omega arith) more within passed)
  where
    by_test : (found : Option ℕ) (test : Bool) → p from ≡ test → (from + 1 ≤ at → unwrap_or found last ≤ at) → unwrap_or (cond test (Some from) found) last ≤ at
    by_test found true here later = after
    by_test found false here later =
        let other : at ≢ from = λ same_place. let both : true ≡ false = sym passed ∙ ap p same_place ∙ here in cc in
        later (omega arith)

-- so many bytes hold the number
pub byte_count_fits : (number : ℕ) → number < 2 ^ 64 → number < 2 ^ (8 * byte_count number)
unfolding byte_count
byte_count_fits number small =
    let passed = first_passes (λ count. nat_lt number (2 ^ (8 * count))) 0 8 8 (grind (arith, nat_tests)) in
    grind (arith, nat_tests)

-- and no fewer do
pub byte_count_least : (number count : ℕ) → count ≤ 8 → number < 2 ^ (8 * count) → byte_count number ≤ count
unfolding byte_count
byte_count_least number count few small =
    first_least (λ count. nat_lt number (2 ^ (8 * count))) 0 8 8 count (omega arith) (omega arith) few (grind (arith, nat_tests))

-- so many bits spell a number that has no more by its low bits
pub fixed_spelled : (count value : ℕ) (letters : List Bool) → (fixed count).Spells value letters → (value < 2 ^ count) × (letters ≡ low_bits count value)
fixed_spelled count value letters (long, same) = (
  subst (λ n. n < 2 ^ count) (sym same) (subst (λ n. num letters < 2 ^ n) long (num_fits letters)),
  sym (low_bits_of_num letters) ∙ ap₂ low_bits long (sym same),
)

-- and its low bits spell it
pub fixed_spells : (count value : ℕ) → value < 2 ^ count → (fixed count).Spells value (low_bits count value)
fixed_spells count value fits = (length_of_low_bits count value, sym (num_of_low_bits count value fits))

-- a number after the count of its bytes, said of all counts at once
pub record IsCounted (number : ℕ) (letters : List Bool) : Type 0 where
  pub count : ℕ
  pub few : count ≤ 8
  pub fits : number < 2 ^ (8 * count)
  pub spelled : letters ≡ low_bits 4 count ++ low_bits (8 * count) number

-- what spells a counted number is a count of bytes and so many bytes
pub counted_spelled : (number : ℕ) (letters : List Bool) → counted_number.Spells number letters → IsCounted number letters
counted_spelled number letters (count, prefix, back, first, second, same) =
    let tag = fixed_spelled 4 count prefix first.1 in
    let after = fixed_spelled (8 * count) number back second in
    record {
      count = count;
      few = grind (arith, nat_tests);
      fits = after.0;
      spelled = same ∙ ap₂ (λ some more. some ++ more) tag.1 after.1;
    }

-- and these spell it
pub counted_spells : (number : ℕ) (letters : List Bool) → IsCounted number letters → counted_number.Spells number letters
counted_spells number letters is = (
  is.count,
  low_bits 4 is.count,
  low_bits (8 * is.count) number,
  (grind (arith, nat_tests), fixed_spells 4 is.count (omega arith)),
  fixed_spells (8 * is.count) number is.fits,
  is.spelled,
)

-- the counts of bytes are a code
pub byte_counts_is_code : IsCode AnyLetters byte_counts
byte_counts_is_code = restrict_is_code AnyLetters (λ count. nat_le count 8) (fixed 4) (fixed_is_code 4)

-- so many bytes hold no more than eight
held_by_eight : (number count : ℕ) → count ≤ 8 → number < 2 ^ (8 * count) → number < 2 ^ 64
held_by_eight number count few fits =
    let more : 8 * count ≤ 64 = omega arith in
    omega (arith, pow-le-pow_right {n = 2} (lit< tt) more)

-- a counted number is a code
pub counted_is_code : IsCode AnyLetters counted_number
counted_is_code =
    tagged_is_code AnyLetters byte_counts (λ count. fixed (8 * count)) (λ number. number < 2 ^ 64) byte_count any_letters_closed byte_counts_is_code
    (λ count is. fixed_is_code (8 * count))
    (λ count number is fits. held_by_eight number count (grind (arith, nat_tests)) fits)
    (λ number small. picked number (byte_count_fits number small) (byte_count_least number 8 (omega arith) small))
    (λ count number is fits. shorter number count (byte_count_least number count (grind (arith, nat_tests)) fits))
  where
    picked : (number : ℕ) → number < 2 ^ (8 * byte_count number) → byte_count number ≤ 8 → byte_counts.IsValue (byte_count number) × (number < 2 ^ (8 * byte_count number))
    picked number fits few = ((grind (arith, nat_tests), omega arith), fits)

    shorter : (number count : ℕ) → byte_count number ≤ count
        → length (low_bits 4 (byte_count number)) + length (low_bits (8 * byte_count number) number) ≤ length (low_bits 4 count) + length (low_bits (8 * count) number)
    shorter number count less =
        omega (arith, length_of_low_bits 4 (byte_count number), length_of_low_bits (8 * byte_count number) number, length_of_low_bits 4 count, length_of_low_bits (8 * count) number)

-- no bytes are spelled by their count alone
pub none_spelled : (number : ℕ) (letters : List Bool) → no_bytes.Spells number letters → letters ≡ low_bits 4 0 ++ low_bits 0 0
unfolding low_bits
none_spelled number letters (none, spelled) =
    let same : number ≡ 0 = grind (arith, nat_tests) in
    (fixed_spelled 4 number letters spelled).1 ∙ ap (low_bits 4) same ∙ sym (append-nil (low_bits 4 0))

-- and their count spells them
pub none_spells : (letters : List Bool) → letters ≡ low_bits 4 0 ++ low_bits 0 0 → no_bytes.Spells 0 letters
unfolding low_bits
none_spells letters same = (refl, subst (λ (one : List Bool). (fixed 4).Spells 0 one) (sym (same ∙ append-nil (low_bits 4 0))) (fixed_spells 4 0 (omega arith)))

-- a count of no bytes says no number
pub none_counted : (count number : ℕ) (letters : List Bool) → count ≡ 0 → letters ≡ low_bits 4 count ++ low_bits (8 * count) number → letters ≡ low_bits 4 0 ++ low_bits 0 0
unfolding low_bits
none_counted count number letters none same = same ∙ ap (λ n. low_bits 4 n ++ low_bits (8 * n) number) none
