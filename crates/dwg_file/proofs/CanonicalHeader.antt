-- The header of the canonical file lies in its ranges, and locates the sections.
use Rattle.std.proofs.Common.{◌≡◌, ◌≢◌, refl, sym, ◌∙◌, ap, subst, ℕ, zero, suc, ◌+◌, ◌^◌, ◌<◌, ◌≤◌, List, [], ◌∷◌, length, length-append, arith}
use Rattle.std.specs.Prelude.{map, slice_index, Contains, AllPairs, slice_index_or}
use Rattle.std.specs.List.{AllByRecursion}
use Rattle.std.proofs.lemmas.List.{length-map}
use Rattle.dwg_base.specs.Devices.{MOST_BYTES}
use Rattle.dwg_sections.specs.declared.header.Locator.{Locator}
use Rattle.dwg_sections.specs.FileHeader.{locator_numbers, IsLocator, LocateSections, IsFileHeader}
use Rattle.dwg_file.specs.Contents.{OtherValue, Contents}
use Rattle.dwg_file.specs.Canonical.{Carried, class_content, others_bytes, map_with, variables_place, classes_place, map_place_with, others_place_with, size_with, others_located, header_with}
use Rattle.dwg_file.specs.Valid.{IsOther, IsValid}

-- what holds of all pairs holds of the first member and each later one
pub pairs_head : {X : Type 0} (R : X → X → Type 0) (x : X) (xs : List X) → AllPairs R (x ∷ xs) → AllByRecursion (R x) xs
pairs_head R x [] all = tt
pairs_head R x (y ∷ xs) all =
    (all 0 1 x (omega arith) (omega arith), pairs_head R x xs (λ i j d before inside. skipped i j d before inside))
  where
    skipped : (i j : ℕ) (d : _) → i < j → j < length (x ∷ xs) → R (slice_index_or (x ∷ xs) i d) (slice_index_or (x ∷ xs) j d)
    skipped i zero d before inside = absurd (omega arith)
    skipped zero (suc j) d before inside = all 0 (suc (suc j)) d (omega arith) (omega arith)
    skipped (suc i) (suc j) d before inside = all (suc (suc i)) (suc (suc j)) d (omega arith) (omega arith)

-- and of the members after it
pub pairs_tail : {X : Type 0} (R : X → X → Type 0) (x : X) (xs : List X) → AllPairs R (x ∷ xs) → AllPairs R xs
pairs_tail R x xs all i j d before inside = all (suc i) (suc j) d (omega arith) (omega arith)

-- locators stand for their sections, one for each
pub length_of_located : (others : List OtherValue) (place : ℕ) → length (others_located place others) ≡ length others
length_of_located [] place = refl
length_of_located (other ∷ others) place = omega (arith, length_of_located others (place + length other.bytes))

-- they have the numbers of the sections
numbers_of_located : (others : List OtherValue) (place : ℕ) → locator_numbers (others_located place others) ≡ map (λ (other : OtherValue). other.number) others
numbers_of_located [] place = refl
numbers_of_located (other ∷ others) place = ap (λ numbers. other.number ∷ numbers) (numbers_of_located others (place + length other.bytes))

-- and lie in their ranges, where the sections end in range
located_fit : (others : List OtherValue) (place : ℕ) → AllByRecursion IsOther others → place + length (others_bytes others) < 2 ^ 32 → AllByRecursion IsLocator (others_located place others)
located_fit [] place are below = tt
located_fit (other ∷ others) place are below =
    let long : length (others_bytes (other ∷ others)) ≡ length other.bytes + length (others_bytes others) = length-append other.bytes (others_bytes others) in (
      record { number = are.0.most; place = omega (arith, long); size = omega (arith, long) },
      located_fit others (place + length other.bytes) are.1 (omega (arith, long)),
    )

-- the number at a place is that of the section there
number_at : (others : List OtherValue) (i : ℕ) → slice_index (map (λ (other : OtherValue). other.number) others) i ≡ (slice_index_or others i (record { number = 0; bytes = [] })).number
number_at [] i = refl
number_at (other ∷ others) zero = refl
number_at (other ∷ others) (suc i) = number_at others i

-- it is at least three
number_is_least : (others : List OtherValue) → AllByRecursion IsOther others → (i : ℕ) → i < length others → 3 ≤ slice_index (map (λ (other : OtherValue). other.number) others) i
number_is_least [] are i inside = absurd (omega arith)
number_is_least (other ∷ others) are zero inside = are.0.least
number_is_least (other ∷ others) are (suc i) inside = number_is_least others are.1 i (omega arith)

-- numbers are distinct
abbrev AreDistinct : List ℕ → Type 0
AreDistinct numbers = (i j : ℕ) → i < j → j < length numbers → slice_index numbers i ≢ slice_index numbers j

-- those of sections are
others_apart : (others : List OtherValue) → AllPairs (λ (one other : OtherValue). one.number ≢ other.number) others → AreDistinct (map (λ (other : OtherValue). other.number) others)
others_apart others distinct i j before inside = λ same.
    distinct i j (record { number = 0; bytes = [] }) before (omega (arith, length-map others (λ (other : OtherValue). other.number)))
    (sym (number_at others i) ∙ same ∙ number_at others j)

-- and so are these with 0, 1 and 2 before them
all_apart : (numbers : List ℕ) → ((i : ℕ) → i < length numbers → 3 ≤ slice_index numbers i) → AreDistinct numbers → AreDistinct (0 ∷ 1 ∷ 2 ∷ numbers)
all_apart numbers least distinct i zero before inside = absurd (omega arith)
all_apart numbers least distinct zero (suc zero) before inside = λ same. absurd (omega arith)
all_apart numbers least distinct zero (suc (suc zero)) before inside = λ same. absurd (omega arith)
all_apart numbers least distinct zero (suc (suc (suc j))) before inside = λ same. let above = least j (omega arith) in absurd (omega arith)
all_apart numbers least distinct (suc zero) (suc zero) before inside = absurd (omega arith)
all_apart numbers least distinct (suc zero) (suc (suc zero)) before inside = λ same. absurd (omega arith)
all_apart numbers least distinct (suc zero) (suc (suc (suc j))) before inside = λ same. let above = least j (omega arith) in absurd (omega arith)
all_apart numbers least distinct (suc (suc zero)) (suc zero) before inside = absurd (omega arith)
all_apart numbers least distinct (suc (suc zero)) (suc (suc zero)) before inside = absurd (omega arith)
all_apart numbers least distinct (suc (suc zero)) (suc (suc (suc j))) before inside = λ same. let above = least j (omega arith) in absurd (omega arith)
all_apart numbers least distinct (suc (suc (suc i))) (suc zero) before inside = absurd (omega arith)
all_apart numbers least distinct (suc (suc (suc i))) (suc (suc zero)) before inside = absurd (omega arith)
all_apart numbers least distinct (suc (suc (suc i))) (suc (suc (suc j))) before inside = distinct i j (omega arith) (omega arith)

-- the first three numbers are among them
first_three : (numbers : List ℕ) (number : ℕ) → number < 3 → Contains (0 ∷ 1 ∷ 2 ∷ numbers) number
first_three numbers zero small = (0, omega arith, refl)
first_three numbers (suc zero) small = (1, omega arith, refl)
first_three numbers (suc (suc zero)) small = (2, omega arith, refl)
first_three numbers (suc (suc (suc number))) small = absurd (omega arith)

-- the locators locate the sections
located_sections : (carried : Carried) (drawing : Contents) → IsValid drawing → LocateSections (header_with carried drawing).locators
located_sections carried drawing is = record {
  count = (omega (arith, counted), omega (arith, counted, is.few));
  distinct = λ i j before inside.
      subst (λ numbers. AreDistinct (0 ∷ 1 ∷ 2 ∷ numbers)) (sym numbered)
      (all_apart (map (λ (other : OtherValue). other.number) drawing.others)
      (λ k within. number_is_least drawing.others is.others k (omega (arith, length-map drawing.others (λ (other : OtherValue). other.number))))
      (others_apart drawing.others is.distinct))
      i j before (omega (arith, length-map (others_located (others_place_with carried drawing) drawing.others) (λ (locator : Locator). locator.number)));
  located = first_three (locator_numbers (others_located (others_place_with carried drawing) drawing.others));
}
  where
    counted : length (others_located (others_place_with carried drawing) drawing.others) ≡ length drawing.others
    counted = length_of_located drawing.others (others_place_with carried drawing)

    numbered : locator_numbers (others_located (others_place_with carried drawing) drawing.others) ≡ map (λ (other : OtherValue). other.number) drawing.others
    numbered = numbers_of_located drawing.others (others_place_with carried drawing)

-- the header of a drawing that isn't too large is one
pub header_fits : (carried : Carried) (drawing : Contents) → IsValid drawing → size_with carried drawing ≤ MOST_BYTES → IsFileHeader (header_with carried drawing)
header_fits carried drawing is small = record {
  lead = is.lead;
  preview = omega arith;
  mark = is.mark;
  code_page = is.code_page;
  locators = (variables, (classes, (mapped, located_fit drawing.others (others_place_with carried drawing) is.others (omega arith))));
  sections = located_sections carried drawing is;
}
  where
    variables : IsLocator (record { number = 0; place = variables_place drawing; size = 38 + length drawing.variables })
    variables = record { number = omega arith; place = omega arith; size = omega arith }

    classes : IsLocator (record { number = 1; place = classes_place drawing; size = 38 + length (class_content drawing.classes) })
    classes = record { number = omega arith; place = omega arith; size = omega arith }

    mapped : IsLocator (record { number = 2; place = map_place_with carried drawing; size = length (map_with carried drawing) })
    mapped = record { number = omega arith; place = omega arith; size = omega arith }
