-- The lines on the numbers of locators report the first number that fails.
use Rattle.std.proofs.Common.{◌≡◌, ◌∙◌, refl, sym, ap, ℕ, ◌<◌, true, List, Option, Some, None, arith}
use Rattle.std.specs.Prelude.{find, option_map}
use Rattle.std.specs.List.{range_with_len}
use Rattle.std.proofs.lemmas.Bool.{both_ways, false_from_ne_true, not-false, not_from_true, not_from_false}
use Rattle.std.proofs.lemmas.Option.{same_Some}
use Rattle.dwg_base.proofs.RangeSearch.{first_from_found, found_from_first}
use Rattle.dwg_base.specs.Refusal.{Refusal}
use Rattle.dwg_sections.specs.HeaderLines.{count_at, numbers_at, stands_earlier, is_missing, repeated_refusal, missing_refusal, repeated_line, missing_line}
use Rattle.dwg_sections.specs.HeaderLaws.{IsFirstRepeated, RepeatedIsFirst, IsLeastMissing, MissingIsLeast}
use Rattle.dwg_sections.proofs.LocatorStep.{numbers_counted}
use Rattle.dwg_sections.proofs.LocatorNumbers.{is_earlier, has_earlier, stands_there, is_there}

-- where there is a refusal of what was found, something was
found_some : (report : ℕ → Refusal) (found : Option ℕ) (refusal : Refusal) → option_map report found ≡ Some refusal → (number : ℕ) × (found ≡ Some number) × (refusal ≡ report number)
found_some report None refusal reported = absurd cc
found_some report (Some number) refusal reported = (number, refl, sym (same_Some _ _ reported))

-- and what is reported of it is its refusal
reported_some : (report : ℕ → Refusal) (found : Option ℕ) (refusal : Refusal) (number : ℕ) → found ≡ Some number → refusal ≡ report number → option_map report found ≡ Some refusal
reported_some report found refusal number same reports = ap (option_map report) same ∙ ap (λ (one : Refusal). Some one) (sym reports)

-- a locator that is reported has the number of an earlier one, and none before it has
first_repeated : (bytes : List ℕ) (refusal : Refusal) → repeated_line bytes ≡ Some refusal → IsFirstRepeated bytes refusal
unfolding repeated_line
first_repeated bytes refusal reported =
    let numbers = numbers_at bytes in
    let found = found_some repeated_refusal (find (stands_earlier numbers) (range_with_len 0 (count_at bytes))) refusal reported in
    let is = first_from_found (stands_earlier numbers) 0 (count_at bytes) found.0 found.1 in
    let within : found.0 < count_at bytes = omega (arith, is.inside) in
    let counted = numbers_counted bytes in
    record {
      index = found.0;
      inside = within;
      reports = found.2;
      repeats = has_earlier numbers found.0 (omega arith) is.passes;
      first = λ earlier before twice.
          both_ways (stands_earlier numbers earlier) (is.before earlier (omega arith) before) (is_earlier numbers twice.0 earlier twice.1 (omega arith) twice.2);
    }

-- the first locator that has the number of an earlier one is reported
repeated_reported : (bytes : List ℕ) (refusal : Refusal) → IsFirstRepeated bytes refusal → repeated_line bytes ≡ Some refusal
unfolding repeated_line
repeated_reported bytes refusal is =
    let numbers = numbers_at bytes in
    let counted = numbers_counted bytes in
    let inside : is.index < count_at bytes = is.inside in
    reported_some repeated_refusal (find (stands_earlier numbers) (range_with_len 0 (count_at bytes))) refusal is.index
    (found_from_first (stands_earlier numbers) 0 (count_at bytes) is.index (record {
      least = omega arith;
      inside = omega arith;
      passes = is_earlier numbers is.repeats.0 is.index is.repeats.1 (omega arith) is.repeats.2;
      before = λ k over below. false_from_ne_true (stands_earlier numbers k) (λ (stands : stands_earlier numbers k ≡ true).
          is.first k below (has_earlier numbers k (omega arith) stands));
    }))
    is.reports

-- the line on repeated numbers reports the first such locator
pub repeated_is_first : RepeatedIsFirst
repeated_is_first bytes refusal = (first_repeated bytes refusal, repeated_reported bytes refusal)

-- a number that is reported is no locator's, and each lesser one is
least_missing : (bytes : List ℕ) (refusal : Refusal) → missing_line bytes ≡ Some refusal → IsLeastMissing bytes refusal
unfolding missing_line
least_missing bytes refusal reported =
    let numbers = numbers_at bytes in
    let found = found_some missing_refusal (find (is_missing numbers) (range_with_len 0 3)) refusal reported in
    let is = first_from_found (is_missing numbers) 0 3 found.0 found.1 in
    record {
      number = found.0;
      wanted = omega (arith, is.inside);
      reports = found.2;
      missing = λ there. both_ways (is_missing numbers found.0) (not_from_true _ (is_there numbers found.0 there)) is.passes;
      least = λ lesser below. stands_there numbers lesser (not-false _ (is.before lesser (omega arith) below));
    }

-- the least number that is no locator's is reported
missing_reported : (bytes : List ℕ) (refusal : Refusal) → IsLeastMissing bytes refusal → missing_line bytes ≡ Some refusal
unfolding missing_line
missing_reported bytes refusal is =
    let numbers = numbers_at bytes in
    let wanted : is.number < 3 = is.wanted in
    reported_some missing_refusal (find (is_missing numbers) (range_with_len 0 3)) refusal is.number
    (found_from_first (is_missing numbers) 0 3 is.number (record {
      least = omega arith;
      inside = omega arith;
      passes = not_from_false _ (false_from_ne_true _ (λ found. is.missing (stands_there numbers is.number found)));
      before = λ k over below. not_from_true _ (is_there numbers k (is.least k below));
    }))
    is.reports

-- the line on missing numbers reports the least such number
pub missing_is_least : MissingIsLeast
missing_is_least bytes refusal = (least_missing bytes refusal, missing_reported bytes refusal)
