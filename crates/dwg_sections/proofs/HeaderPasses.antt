-- What it means that no line on the file header fails.
use Rattle.std.proofs.Common.{◌≡◌, ℕ, ◌+◌, ◌≤◌, List, [], ◌∷◌, length, take, Option, Some, None, refl, ap, ltb-false, le-ltb, eqb-true, eq-eqb}
use Rattle.std.specs.Prelude.{find, option_map}
use Rattle.std.specs.List.{range_with_len}
use Rattle.std.proofs.lemmas.Bool.{not-false, not_from_true, or_parts, or_from}
use Rattle.dwg_base.specs.Refusals.{first_fault}
use Rattle.dwg_base.specs.Versions.{version_at, version_bytes}
use Rattle.dwg_check.specs.CheckWord.{header_check_word}
use Rattle.dwg_sections.specs.FileHeader.{HEADER_SENTINEL}
use Rattle.dwg_sections.specs.HeaderLines.{bytes_at, rs_at, count_at, locators_end, numbers_at, stands_earlier, is_missing, repeated_refusal, missing_refusal, short_line, version_line, count_line, cut_line, check_line, sentinel_line, repeated_line, missing_line, HEADER_LINES}
use Rattle.dwg_sections.proofs.TableLines.{no_refusal, keeps, both_none, none_of_both, same_bytes, bytes_same}
use Rattle.dwg_sections.proofs.LocatorNumbers.{AreDistinct, AreLocated, distinct_from_none, none_from_distinct, located_from_none, none_from_located}
use Rattle.dwg_sections.proofs.LocatorStep.{numbers_counted}
use Rattle.dwg_sections.proofs.VersionBegins.{begins, begins_as_read}

-- what each line on the header asks of the bytes
pub record Passes (bytes : List ℕ) : Type 0 where
  pub long : 25 ≤ length bytes
  pub version : take 6 bytes ≡ version_bytes (version_at bytes)
  pub least : 3 ≤ count_at bytes
  pub most : count_at bytes ≤ 6
  pub whole : 18 + locators_end bytes ≤ length bytes
  pub check : rs_at bytes (locators_end bytes) ≡ header_check_word (count_at bytes) (take (locators_end bytes) bytes)
  pub sentinel : bytes_at bytes (2 + locators_end bytes) 16 ≡ HEADER_SENTINEL
  pub distinct : AreDistinct (numbers_at bytes)
  pub located : AreLocated (numbers_at bytes)

-- where what was found is no refusal, nothing was found
found_none : {A B : Type 0} (f : A → B) (found : Option A) → option_map f found ≡ None → found ≡ None
found_none f None none = refl
found_none f (Some x) none = absurd cc

-- no locator has the number of an earlier one exactly where the numbers are distinct
distinct_from_line : (bytes : List ℕ) → repeated_line bytes ≡ None → AreDistinct (numbers_at bytes)
unfolding repeated_line
distinct_from_line bytes none =
    distinct_from_none (numbers_at bytes) (count_at bytes) (numbers_counted bytes)
    (found_none repeated_refusal (find (stands_earlier (numbers_at bytes)) (range_with_len 0 (count_at bytes))) none)

-- distinct numbers are no locator's and an earlier one's
line_from_distinct : (bytes : List ℕ) → AreDistinct (numbers_at bytes) → repeated_line bytes ≡ None
unfolding repeated_line
line_from_distinct bytes distinct =
    ap (option_map repeated_refusal) (none_from_distinct (numbers_at bytes) (count_at bytes) (numbers_counted bytes) distinct)

-- none of 0, 1 and 2 is missing exactly where they are among the numbers
located_from_line : (bytes : List ℕ) → missing_line bytes ≡ None → AreLocated (numbers_at bytes)
unfolding missing_line
located_from_line bytes none =
    located_from_none (numbers_at bytes) (found_none missing_refusal (find (is_missing (numbers_at bytes)) (0 ∷ 1 ∷ 2 ∷ [])) none)

-- numbers with 0, 1 and 2 among them have none missing
line_from_located : (bytes : List ℕ) → AreLocated (numbers_at bytes) → missing_line bytes ≡ None
unfolding missing_line
line_from_located bytes located = ap (option_map missing_refusal) (none_from_located (numbers_at bytes) located)

-- bytes in which no line fails are as each line asks
pub passes_from_none : (bytes : List ℕ) → first_fault HEADER_LINES bytes ≡ None → Passes bytes
unfolding short_line version_line count_line cut_line check_line sentinel_line
passes_from_none bytes none =
    let short = both_none (short_line bytes) _ none in
    let version = both_none (version_line bytes) _ short.1 in
    let count = both_none (count_line bytes) _ version.1 in
    let cut = both_none (cut_line bytes) _ count.1 in
    let check = both_none (check_line bytes) _ cut.1 in
    let sentinel = both_none (sentinel_line bytes) _ check.1 in
    let repeated = both_none (repeated_line bytes) _ sentinel.1 in
    let missing = both_none (missing_line bytes) _ repeated.1 in
    let range = or_parts _ _ (no_refusal _ 3 0 21 count.0) in
    record {
      long = ltb-false _ _ (no_refusal _ 1 0 (length bytes) short.0);
      version = begins_as_read bytes (not-false _ (no_refusal _ 2 0 0 version.0));
      least = ltb-false _ _ range.0;
      most = ltb-false _ _ range.1;
      whole = ltb-false _ _ (no_refusal _ 4 0 (length bytes) cut.0);
      check = eqb-true _ _ (not-false _ (no_refusal _ 5 0 (locators_end bytes) check.0));
      sentinel = same_bytes _ _ (no_refusal _ 6 0 (2 + locators_end bytes) sentinel.0);
      distinct = distinct_from_line bytes repeated.0;
      located = located_from_line bytes missing.0;
    }

-- in bytes that are as each line asks no line fails
pub none_from_passes : (bytes : List ℕ) → Passes bytes → first_fault HEADER_LINES bytes ≡ None
unfolding short_line version_line count_line cut_line check_line sentinel_line
none_from_passes bytes passes =
    none_of_both _ _ (keeps _ 1 0 (length bytes) (le-ltb _ _ passes.long))
    (none_of_both _ _ (keeps _ 2 0 0 (not_from_true _ (begins bytes (version_at bytes) passes.version)))
    (none_of_both _ _ (keeps _ 3 0 21 (or_from _ _ (le-ltb _ _ passes.least) (le-ltb _ _ passes.most)))
    (none_of_both _ _ (keeps _ 4 0 (length bytes) (le-ltb _ _ passes.whole))
    (none_of_both _ _ (keeps _ 5 0 (locators_end bytes) (not_from_true _ (eq-eqb _ _ passes.check)))
    (none_of_both _ _ (keeps _ 6 0 (2 + locators_end bytes) (bytes_same _ _ passes.sentinel))
    (none_of_both _ _ (line_from_distinct bytes passes.distinct)
    (none_of_both _ None (line_from_located bytes passes.located) refl)))))))
