-- Lists of numbers: which of them stand there twice and which are missing, and how that is looked up number by number.
use Rattle.std.proofs.Common.{◌≡◌, ◌≢◌, sym, ◌∙◌, ap, ℕ, ◌<◌, ◌≤◌, true, false, List, [], ◌∷◌, length, take, get_or, None, arith, eqb-true, eq-eqb}
use Rattle.std.specs.Prelude.{◌==◌, slice_index, Contains, find}
use Rattle.std.specs.List.{list_any, range_with_len}
use Rattle.std.proofs.lemmas.Bool.{both_ways, false_from_ne_true, not-false, not_from_true, not_from_false}
use Rattle.std.proofs.lemmas.List.{get_or-take, length-take-le, take_all}
use Rattle.std.proofs.lemmas.List.Folds.{Any-from_list_any, list_any_at}
use Rattle.std.proofs.lemmas.Grind.{get_or_default_zero}
use Rattle.dwg_base.proofs.RangeSearch.{each_fails, none_found}
use Rattle.dwg_sections.specs.HeaderLines.{stands_earlier, is_missing}

-- the numbers of a list are distinct
abbrev pub AreDistinct : List ℕ → Type 0
AreDistinct numbers = (i j : ℕ) → i < j → j < length numbers → slice_index numbers i ≢ slice_index numbers j

-- a number that stands at an earlier index does
pub is_earlier : (numbers : List ℕ) (i j : ℕ) → i < j → j ≤ length numbers → slice_index numbers i ≡ slice_index numbers j → stands_earlier numbers j ≡ true
is_earlier numbers i j before within same =
    list_any_at (λ number. number == slice_index numbers j) (take j numbers) i 0 (omega (arith, length-take-le j numbers within))
    (eq-eqb _ _ (get_or-take j numbers i 0 before ∙ same))

-- one that does stands at some earlier index
pub has_earlier : (numbers : List ℕ) (j : ℕ) → j ≤ length numbers → stands_earlier numbers j ≡ true → (i : ℕ) × (i < j) × (slice_index numbers i ≡ slice_index numbers j)
has_earlier numbers j within stands =
    let found = Any-from_list_any (λ number. number == slice_index numbers j) (take j numbers) stands in
    let i : ℕ = found.0 in
    let before : i < j = omega (arith, found.2, length-take-le j numbers within) in
    let there : get_or numbers i 0 ≡ found.1 =
    sym (get_or-take j numbers i 0 before) ∙ sym (get_or_default_zero (take j numbers) i found.1 found.2) ∙ found.3 in
    (i, before, there ∙ eqb-true _ _ found.4)

-- where no number stands earlier too, the numbers are distinct
pub distinct_from_none : (numbers : List ℕ) (count : ℕ) → length numbers ≡ count → find (stands_earlier numbers) (range_with_len 0 count) ≡ None → AreDistinct numbers
distinct_from_none numbers count counted none i j before inside same =
    both_ways (stands_earlier numbers j) (each_fails (stands_earlier numbers) 0 count none j (omega arith) (omega arith)) (is_earlier numbers i j before (omega arith) same)

-- of distinct numbers none stands earlier too
pub none_from_distinct : (numbers : List ℕ) (count : ℕ) → length numbers ≡ count → AreDistinct numbers → find (stands_earlier numbers) (range_with_len 0 count) ≡ None
none_from_distinct numbers count counted distinct =
    none_found (stands_earlier numbers) 0 count (λ j least below.
    false_from_ne_true (stands_earlier numbers j) (λ (stands : stands_earlier numbers j ≡ true).
    let earlier = has_earlier numbers j (omega arith) stands in distinct earlier.0 j earlier.1 (omega arith) earlier.2))

-- 0, 1 and 2 are among the numbers
abbrev pub AreLocated : List ℕ → Type 0
AreLocated numbers = (number : ℕ) → number < 3 → Contains numbers number

-- a number that is found in a list stands there
pub stands_there : (numbers : List ℕ) (number : ℕ) → list_any (λ other. other == number) numbers ≡ true → Contains numbers number
stands_there numbers number found =
    let there = Any-from_list_any (λ other. other == number) numbers found in
    let same : there.1 ≡ number = eqb-true _ _ there.4 in
    (there.0, there.2, ap (λ d. get_or numbers there.0 d) (sym same) ∙ there.3 ∙ same)

-- a number that stands in a list is found there
pub is_there : (numbers : List ℕ) (number : ℕ) → Contains numbers number → list_any (λ other. other == number) numbers ≡ true
is_there numbers number there =
    list_any_at (λ other. other == number) numbers there.0 number there.1 (eq-eqb _ _ there.2)

-- where none of 0, 1 and 2 is missing, they are among the numbers
pub located_from_none : (numbers : List ℕ) → find (is_missing numbers) (0 ∷ 1 ∷ 2 ∷ []) ≡ None → AreLocated numbers
located_from_none numbers none number below =
    stands_there numbers number (not-false _ (each_fails (is_missing numbers) 0 3 none number (omega arith) (omega arith)))

-- where 0, 1 and 2 are among the numbers, none is missing
pub none_from_located : (numbers : List ℕ) → AreLocated numbers → find (is_missing numbers) (0 ∷ 1 ∷ 2 ∷ []) ≡ None
none_from_located numbers located =
    none_found (is_missing numbers) 0 3 (λ number least below. not_from_true _ (is_there numbers number (located number (omega arith))))

-- a number that stands at an index isn't missing
pub not_missing : (numbers : List ℕ) (number i here : ℕ) → i < length numbers → here ≡ slice_index numbers i → here ≡ number → false ≡ is_missing numbers number
not_missing numbers number i here inside read same =
    sym (not_from_true _ (list_any_at (λ other. other == number) numbers i 0 inside (eq-eqb _ _ (sym read ∙ same))))

-- a number that none of all the numbers is is missing
pub missing_of_all : (numbers : List ℕ) (number i : ℕ) → length numbers ≤ i → list_any (λ other. other == number) (take i numbers) ≡ false → true ≡ is_missing numbers number
missing_of_all numbers number i all none =
    sym (not_from_false _ (ap (list_any (λ other. other == number)) (sym (take_all i numbers all)) ∙ none))
