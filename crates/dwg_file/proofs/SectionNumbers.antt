-- The unknown sections by their places: at most three, with distinct numbers from 3 on, and bytes of the input. A rule of this project.
use Rattle.std.proofs.Common.{◌≡◌, refl, sym, subst, ℕ, suc, ◌+◌, ◌^◌, ◌<◌, ◌≤◌, Bool, true, false, List, [], ◌∷◌, length, take, drop, arith}
use Rattle.std.specs.Prelude.{◌≢◌, ◌==◌, cond, nat_lt, slice_index, AllPairs, Contains, if◌then◌else◌}
use Rattle.std.specs.List.{AllByRecursion, filter}
use Rattle.std.proofs.lemmas.Bool.Decides.{nat_tests}
use Rattle.std.proofs.lemmas.List.{length-take, length-drop, length-map}
use Rattle.std.proofs.lemmas.List.Elements.{All-from_recursion, recursion_from_All, All-take, All-drop}
use Rattle.std.proofs.lemmas.List.Kept.{AllPairs-cons}
use Rattle.dwg_base.specs.Bytes.{AreBytes}
use Rattle.dwg_sections.specs.declared.header.Locator.{Locator}
use Rattle.dwg_sections.specs.FileHeader.{IsLocator, LocateSections, locator_numbers}
use Rattle.dwg_file.specs.Contents.{OtherValue}
use Rattle.dwg_file.specs.ReadAs.{sections_at}
use Rattle.dwg_file.proofs.SectionPlaces.{section_here, contains_after}
use Rattle.dwg_file.specs.SectionNumbers.{Differ, IsSection}

-- bytes of the input are bytes
pub taken_bytes : (bytes : List ℕ) (place count : ℕ) → AreBytes bytes → AreBytes (take count (drop place bytes))
taken_bytes bytes place count are =
    let is_byte = λ (byte : ℕ). byte < 2 ^ 8 in
    recursion_from_All is_byte _ (All-take is_byte count _ (All-drop is_byte place _ (All-from_recursion is_byte bytes are)))

-- and no more than it has
pub taken_few : (bytes : List ℕ) (place count : ℕ) → length (take count (drop place bytes)) ≤ length bytes
taken_few bytes place count = omega (arith, length-take count (drop place bytes), length-drop place bytes)

-- that of a locator from number 3 on is one
section_is : (bytes : List ℕ) (locator : Locator) → AreBytes bytes → IsLocator locator → nat_lt locator.number 3 ≡ false → IsSection (length bytes) (section_here bytes locator)
section_is bytes locator are is high = record {
  is = record { least = grind (arith, nat_tests); most = is.number; bytes = taken_bytes bytes locator.place locator.size are };
  few = taken_few bytes locator.place locator.size;
}

-- all are
pub sections_are_sections : (bytes : List ℕ) (locators : List Locator) → AreBytes bytes → AllByRecursion IsLocator locators → AllByRecursion (IsSection (length bytes)) (sections_at bytes locators)
sections_are_sections bytes [] are all = tt
sections_are_sections bytes (locator ∷ locators) are all = of_low (nat_lt locator.number 3) refl (sections_are_sections bytes locators are all.1)
  where
    of_low : (low : Bool) → nat_lt locator.number 3 ≡ low → AllByRecursion (IsSection (length bytes)) (sections_at bytes locators)
        → AllByRecursion (IsSection (length bytes)) (if low then sections_at bytes locators else section_here bytes locator ∷ sections_at bytes locators)
    of_low true is others = others
    of_low false is others = (section_is bytes locator are all.0 is, others)

-- how many of numbers are below 3
abbrev low_count : List ℕ → ℕ
low_count [] = 0
low_count (number ∷ numbers) = (if nat_lt number 3 then 1 else 0) + low_count numbers

-- how many are a number
abbrev times : ℕ → List ℕ → ℕ
times wanted [] = 0
times wanted (number ∷ numbers) = (if number == wanted then 1 else 0) + times wanted numbers

-- a number that stands in a list is there some times
times_some : (wanted : ℕ) (numbers : List ℕ) → Contains numbers wanted → 0 < times wanted numbers
times_some wanted [] (k, within, is) = absurd (omega arith)
times_some wanted (number ∷ numbers) has = of_test (number == wanted) refl (λ other. times_some wanted numbers (contains_after wanted number numbers other has))
  where
    of_test : (test : Bool) → (number == wanted) ≡ test → ((number == wanted) ≡ false → 0 < times wanted numbers) → 0 < (if test then 1 else 0) + times wanted numbers
    of_test true is others = omega arith
    of_test false is others = omega (arith, others is)

-- 0, 1 and 2 are below 3
times_low : (numbers : List ℕ) → times 0 numbers + times 1 numbers + times 2 numbers ≤ low_count numbers
times_low [] = omega arith
times_low (number ∷ numbers) = omega (arith, of_tests (number == 0) (number == 1) (number == 2) (nat_lt number 3) refl refl refl refl, times_low numbers)
  where
    of_tests : (none one two low : Bool) → (number == 0) ≡ none → (number == 1) ≡ one → (number == 2) ≡ two → nat_lt number 3 ≡ low
        → (if none then 1 else 0) + (if one then 1 else 0) + (if two then 1 else 0) ≤ (if low then 1 else 0)
    of_tests none one two low a b c d = grind (arith, nat_tests, a, b, c, d)

-- the unknown sections and the locators below number 3 are all locators
sections_counted : (bytes : List ℕ) (locators : List Locator) → length (sections_at bytes locators) + low_count (locator_numbers locators) ≡ length locators
sections_counted bytes [] = refl
sections_counted bytes (locator ∷ locators) = of_low (nat_lt locator.number 3) (sections_counted bytes locators)
  where
    of_low : (low : Bool) → length (sections_at bytes locators) + low_count (locator_numbers locators) ≡ length locators
        → length (if low then sections_at bytes locators else section_here bytes locator ∷ sections_at bytes locators) + ((if low then 1 else 0) + low_count (locator_numbers locators)) ≡ length (locator ∷ locators)
    of_low true others = omega (arith, others)
    of_low false others = omega (arith, others)

-- there are at most three unknown sections
pub sections_few : (bytes : List ℕ) (locators : List Locator) → LocateSections locators → length (sections_at bytes locators) ≤ 3
sections_few bytes locators locate =
    omega (
      arith,
      sections_counted bytes locators,
      times_low (locator_numbers locators),
      times_some 0 (locator_numbers locators) (locate.located 0 (omega arith)),
      times_some 1 (locator_numbers locators) (locate.located 1 (omega arith)),
      times_some 2 (locator_numbers locators) (locate.located 2 (omega arith)),
      locate.count.1,
    )

-- numbers are distinct by their places
abbrev AreDistinct : List ℕ → Type 0
AreDistinct numbers = (i j : ℕ) → i < j → j < length numbers → slice_index numbers i ≢ slice_index numbers j

-- a number that no locator has is that of no unknown section
sections_differ : (bytes : List ℕ) (one : OtherValue) (locators : List Locator) → ((k : ℕ) → k < length (locator_numbers locators) → one.number ≢ slice_index (locator_numbers locators) k)
    → AllByRecursion (Differ one) (sections_at bytes locators)
sections_differ bytes one [] differ = tt
sections_differ bytes one (locator ∷ locators) differ = of_low (nat_lt locator.number 3) (sections_differ bytes one locators (λ k within. differ (suc k) (omega arith)))
  where
    of_low : (low : Bool) → AllByRecursion (Differ one) (sections_at bytes locators)
        → AllByRecursion (Differ one) (if low then sections_at bytes locators else section_here bytes locator ∷ sections_at bytes locators)
    of_low true others = others
    of_low false others = (differ 0 (omega arith), others)

-- no two of no sections
none_differ : AllPairs Differ []
none_differ i j d before within = absurd (omega arith)

-- unknown sections have distinct numbers where locators have
distinct_sections : (bytes : List ℕ) (locators : List Locator) → AreDistinct (locator_numbers locators) → AllPairs Differ (sections_at bytes locators)
distinct_sections bytes [] distinct = none_differ
distinct_sections bytes (locator ∷ locators) distinct =
    of_low (nat_lt locator.number 3) (distinct_sections bytes locators (λ i j before within. distinct (suc i) (suc j) (omega arith) (omega arith)))
    (sections_differ bytes (section_here bytes locator) locators (λ k within. distinct 0 (suc k) (omega arith) (omega arith)))
  where
    of_low : (low : Bool) → AllPairs Differ (sections_at bytes locators) → AllByRecursion (Differ (section_here bytes locator)) (sections_at bytes locators)
        → AllPairs Differ (if low then sections_at bytes locators else section_here bytes locator ∷ sections_at bytes locators)
    of_low true others first = others
    of_low false others first =
        AllPairs-cons Differ (section_here bytes locator) (sections_at bytes locators) (All-from_recursion (Differ (section_here bytes locator)) (sections_at bytes locators) first) others

-- so they have
pub sections_distinct : (bytes : List ℕ) (locators : List Locator) → LocateSections locators → AllPairs Differ (sections_at bytes locators)
sections_distinct bytes locators locate =
    distinct_sections bytes locators (λ i j before within. locate.distinct i j before (omega (arith, length-map locators (λ (locator : Locator). locator.number))))

-- what holds of the sections of locators holds of those of the locators that stay
pub sections_filtered : (bytes : List ℕ) (stay : Locator → Bool) (Holds : OtherValue → Type 0) (locators : List Locator) → AllByRecursion Holds (sections_at bytes locators)
    → AllByRecursion Holds (sections_at bytes (filter stay locators))
sections_filtered bytes stay Holds [] all = tt
sections_filtered bytes stay Holds (locator ∷ locators) all = of_tests (stay locator) (nat_lt locator.number 3) refl all (sections_filtered bytes stay Holds locators)
  where
    Kept : Bool → Type 0
    Kept stays = AllByRecursion Holds (sections_at bytes (cond stays (locator ∷ filter stay locators) (filter stay locators)))

    of_tests : (stays low : Bool) → nat_lt locator.number 3 ≡ low → AllByRecursion Holds (if low then sections_at bytes locators else section_here bytes locator ∷ sections_at bytes locators)
        → (AllByRecursion Holds (sections_at bytes locators) → AllByRecursion Holds (sections_at bytes (filter stay locators))) → Kept stays
    of_tests false true is all others = others all
    of_tests false false is all others = others all.1
    of_tests true true is all others =
        subst (λ (known : Bool). AllByRecursion Holds (if known then sections_at bytes (filter stay locators) else section_here bytes locator ∷ sections_at bytes (filter stay locators))) (sym is)
        (others all)
    of_tests true false is all others =
        subst (λ (known : Bool). AllByRecursion Holds (if known then sections_at bytes (filter stay locators) else section_here bytes locator ∷ sections_at bytes (filter stay locators))) (sym is)
        (all.0, others all.1)

-- they are no more
pub sections_filtered_few : (bytes : List ℕ) (stay : Locator → Bool) (locators : List Locator) → length (sections_at bytes (filter stay locators)) ≤ length (sections_at bytes locators)
sections_filtered_few bytes stay [] = omega arith
sections_filtered_few bytes stay (locator ∷ locators) = of_tests (stay locator) (nat_lt locator.number 3) refl (sections_filtered_few bytes stay locators)
  where
    of_tests : (stays low : Bool) → nat_lt locator.number 3 ≡ low → length (sections_at bytes (filter stay locators)) ≤ length (sections_at bytes locators)
        → length (sections_at bytes (cond stays (locator ∷ filter stay locators) (filter stay locators)))
        ≤ length (if low then sections_at bytes locators else section_here bytes locator ∷ sections_at bytes locators)
    of_tests false true is few = few
    of_tests false false is few = omega (arith, few)
    of_tests true true is few =
        subst
        (λ (known : Bool). length (if known then sections_at bytes (filter stay locators) else section_here bytes locator ∷ sections_at bytes (filter stay locators)) ≤ length (sections_at bytes locators)) (sym is) few
    of_tests true false is few =
        subst
        (λ (known : Bool). length (if known then sections_at bytes (filter stay locators) else section_here bytes locator ∷ sections_at bytes (filter stay locators))
        ≤ length (section_here bytes locator ∷ sections_at bytes locators)) (sym is)
        (omega (arith, few))

-- the first of pairwise different sections differs from those after it, and these differ
differ_after : (first : OtherValue) (others : List OtherValue) → AllPairs Differ (first ∷ others) → AllByRecursion (Differ first) others × AllPairs Differ others
differ_after first others differ = (
  recursion_from_All (Differ first) others (λ k d within. differ 0 (suc k) d (omega arith) (omega arith)),
  (λ i j d before within. differ (suc i) (suc j) d (omega arith) (omega arith)),
)

-- and have distinct numbers where all have
pub sections_filtered_differ : (bytes : List ℕ) (stay : Locator → Bool) (locators : List Locator) → AllPairs Differ (sections_at bytes locators)
    → AllPairs Differ (sections_at bytes (filter stay locators))
sections_filtered_differ bytes stay [] differ = none_differ
sections_filtered_differ bytes stay (locator ∷ locators) differ = of_tests (stay locator) (nat_lt locator.number 3) refl differ (sections_filtered_differ bytes stay locators)
  where
    here : OtherValue
    here = section_here bytes locator

    of_tests : (stays low : Bool) → nat_lt locator.number 3 ≡ low → AllPairs Differ (if low then sections_at bytes locators else here ∷ sections_at bytes locators)
        → (AllPairs Differ (sections_at bytes locators) → AllPairs Differ (sections_at bytes (filter stay locators)))
        → AllPairs Differ (sections_at bytes (cond stays (locator ∷ filter stay locators) (filter stay locators)))
    of_tests false true is differ others = others differ
    of_tests false false is differ others = others (differ_after here (sections_at bytes locators) differ).1
    of_tests true true is differ others =
        subst (λ (known : Bool). AllPairs Differ (if known then sections_at bytes (filter stay locators) else here ∷ sections_at bytes (filter stay locators))) (sym is) (others differ)
    of_tests true false is differ others =
        let both = differ_after here (sections_at bytes locators) differ in
        subst (λ (known : Bool). AllPairs Differ (if known then sections_at bytes (filter stay locators) else here ∷ sections_at bytes (filter stay locators))) (sym is)
        (AllPairs-cons Differ here (sections_at bytes (filter stay locators))
        (All-from_recursion (Differ here) (sections_at bytes (filter stay locators)) (sections_filtered bytes stay (Differ here) locators both.0)) (others both.1))
