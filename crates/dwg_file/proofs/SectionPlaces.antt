-- Where sections lie, and the unknown ones among them. A rule of this project, over the locators of the Open Design Specification, "R13 to R2000 file layout".
use Rattle.std.proofs.Common.{◌≡◌, refl, sym, ◌∙◌, ap, ap₂, subst, ℕ, zero, suc, ◌+◌, ◌≤◌, Bool, true, false, List, [], ◌∷◌, length, take, drop, Option, Some, None, inl, inr, arith}
use Rattle.std.specs.Prelude.{◌⊎◌, ◌==◌, ◌&&◌, not, nat_lt, find, option_map, unwrap_or, Contains, if◌then◌else◌}
use Rattle.std.proofs.lemmas.Bool.Decides.{nat_tests}
use Rattle.std.proofs.lemmas.List.{length-drop, length-take-le, take-append-drop}
use Rattle.dwg_base.specs.Bytes.{StandsAt}
use Rattle.dwg_base.specs.Refusal.{Refusal}
use Rattle.dwg_object.proofs.StandingLemmas.{take_stands, stands_drop, stands_within}
use Rattle.dwg_sections.specs.declared.header.Locator.{Locator}
use Rattle.dwg_sections.specs.FileHeader.{locator_numbers}
use Rattle.dwg_sections.specs.HeaderLines.{place_of}
use Rattle.dwg_file.specs.Contents.{OtherValue}
use Rattle.dwg_file.specs.FileLines.{is_cut, first_cut}
use Rattle.dwg_file.specs.ReadAs.{sections_at}
use Rattle.dwg_file.specs.Spelled.{IsSectionOf, AreSectionsOf}

-- a number that stands in a list, and not first, stands after
pub contains_after : (number first : ℕ) (numbers : List ℕ) → (first == number) ≡ false → Contains (first ∷ numbers) number → Contains numbers number
contains_after number first numbers other (zero, inside, is) = let same : first ≡ number = is in absurd (grind (arith, nat_tests))
contains_after number first numbers other (suc k, inside, is) = (k, omega arith, is)

-- a number that a locator has is that of a section with a place
pub is_located : (number : ℕ) (locators : List Locator) → Contains (locator_numbers locators) number → place_of number locators ≡ Some (unwrap_or (place_of number locators) 0)
is_located number [] (k, inside, is) = absurd (omega arith)
is_located number (locator ∷ locators) has = of_test (locator.number == number) refl (is_located number locators)
  where
    IsPlaced : Option Locator → Type 0
    IsPlaced found = option_map (λ (locator : Locator). locator.place) found ≡ Some (unwrap_or (option_map (λ (locator : Locator). locator.place) found) 0)

    others : Option Locator
    others = find (λ (locator : Locator). locator.number == number) locators

    of_test : (test : Bool) → (locator.number == number) ≡ test → (Contains (locator_numbers locators) number → place_of number locators ≡ Some (unwrap_or (place_of number locators) 0))
        → place_of number (locator ∷ locators) ≡ Some (unwrap_or (place_of number (locator ∷ locators)) 0)
    of_test true is after = subst (λ test. IsPlaced (if test then Some locator else others)) (sym is) refl
    of_test false is after = subst (λ test. IsPlaced (if test then Some locator else others)) (sym is) (after (contains_after number locator.number (locator_numbers locators) is has))

-- a list without letters is the empty one
no_letters : {A : Type 0} (letters : List A) → length letters ≡ 0 → letters ≡ []
no_letters [] none = refl
no_letters (letter ∷ letters) none = absurd (omega arith)

-- sections of one number and the same bytes are one
section_same : (number other : ℕ) (bytes others : List ℕ) → number ≡ other → bytes ≡ others → ◌≡◌ {A = OtherValue} (record { number = number; bytes = bytes }) (record { number = other; bytes = others })
section_same number other bytes others same_number same_bytes =
    ap (λ (n : ℕ). record { number = n; bytes = bytes }) same_number ∙ ap (λ (b : List ℕ). record { number = other; bytes = b }) same_bytes

-- an unknown section that isn't cut has no bytes, or lies in the input
not_cut : (bytes : List ℕ) (locator : Locator) → nat_lt locator.number 3 ≡ false → is_cut bytes locator ≡ false → (locator.size ≡ 0) ⊎ (locator.place + locator.size ≤ length bytes)
not_cut bytes locator high whole = of_size (nat_lt 0 locator.size) refl (nat_lt (length bytes) (locator.place + locator.size)) refl
  where
    falsely : is_cut bytes locator ≡ true → ⊥
    falsely cut = let both : false ≡ true = sym whole ∙ cut in cc

    of_size : (some : Bool) → nat_lt 0 locator.size ≡ some → (passes : Bool) → nat_lt (length bytes) (locator.place + locator.size) ≡ passes
        → (locator.size ≡ 0) ⊎ (locator.place + locator.size ≤ length bytes)
    of_size false none passes past = inl (grind (arith, nat_tests))
    of_size true some false past = inr (grind (arith, nat_tests))
    of_size true some true past =
        let cut : is_cut bytes locator ≡ true = ap (λ low. not low && nat_lt 0 locator.size && nat_lt (length bytes) (locator.place + locator.size)) high ∙ ap₂ (λ one other. one && other) some past in
        absurd (falsely cut)

-- and where it has none, or lies in the input, it isn't cut
cut_not : (bytes : List ℕ) (locator : Locator) → (locator.size ≡ 0) ⊎ (locator.place + locator.size ≤ length bytes) → is_cut bytes locator ≡ false
cut_not bytes locator whole = of_low (nat_lt locator.number 3) refl
  where
    none_passes : (some passes : Bool) → nat_lt 0 locator.size ≡ some → nat_lt (length bytes) (locator.place + locator.size) ≡ passes
        → (locator.size ≡ 0) ⊎ (locator.place + locator.size ≤ length bytes) → (some && passes) ≡ false
    none_passes false passes none past either = refl
    none_passes true false some past either = refl
    none_passes true true some past (inl none) = absurd (grind (arith, nat_tests))
    none_passes true true some past (inr within) = absurd (grind (arith, nat_tests))

    of_low : (low : Bool) → nat_lt locator.number 3 ≡ low → is_cut bytes locator ≡ false
    of_low true is = ap (λ low. not low && nat_lt 0 locator.size && nat_lt (length bytes) (locator.place + locator.size)) is
    of_low false is =
        ap (λ low. not low && nat_lt 0 locator.size && nat_lt (length bytes) (locator.place + locator.size)) is
        ∙ none_passes (nat_lt 0 locator.size) (nat_lt (length bytes) (locator.place + locator.size)) refl refl whole

-- a locator that isn't cut, and those after it
first_whole : (bytes : List ℕ) (index : ℕ) (locator : Locator) (locators : List Locator) → is_cut bytes locator ≡ false → first_cut bytes index (locator ∷ locators) ≡ first_cut bytes (index + 1) locators
unfolding first_cut
first_whole bytes index locator locators whole =
    let refusal : Refusal = record { line = 33; index = index; place = locator.place } in
    ap (λ test. if test then Some refusal else first_cut bytes (index + 1) locators) whole

-- the first of locators isn't cut where none is
first_of_none : (bytes : List ℕ) (index : ℕ) (locator : Locator) (locators : List Locator) → first_cut bytes index (locator ∷ locators) ≡ None → is_cut bytes locator ≡ false
unfolding first_cut
first_of_none bytes index locator locators none = of_test (is_cut bytes locator) refl
  where
    refusal : Refusal
    refusal = record { line = 33; index = index; place = locator.place }

    some_none : Some refusal ≡ None → ⊥
    some_none same = cc

    of_test : (test : Bool) → is_cut bytes locator ≡ test → is_cut bytes locator ≡ false
    of_test false is = is
    of_test true is =
        let some : Some refusal ≡ None = sym (ap (λ test. if test then Some refusal else first_cut bytes (index + 1) locators) is) ∙ none in
        absurd (some_none some)

-- the unknown section of a locator by its place
abbrev pub section_here : List ℕ → Locator → OtherValue
section_here bytes locator = record { number = locator.number; bytes = take locator.size (drop locator.place bytes) }

-- the section by the place of a locator that isn't cut is that of the locator
section_stands : (bytes : List ℕ) (locator : Locator) → (locator.size ≡ 0) ⊎ (locator.place + locator.size ≤ length bytes)
    → IsSectionOf bytes locator (section_here bytes locator)
section_stands bytes locator (inl none) = record {
  number = refl;
  size = length-take-le locator.size (drop locator.place bytes) (omega arith);
  stands = inl none;
}
section_stands bytes locator (inr within) = record {
  number = refl;
  size = length-take-le locator.size (drop locator.place bytes) (omega (arith, length-drop locator.place bytes));
  stands = inr (stands_drop bytes locator.place (take locator.size (drop locator.place bytes)) (drop locator.size (drop locator.place bytes)) (omega arith)
      (sym (take-append-drop locator.size (drop locator.place bytes))));
}

-- the section of a locator isn't cut
stands_whole : (bytes : List ℕ) (locator : Locator) (other : OtherValue) → IsSectionOf bytes locator other → (locator.size ≡ 0) ⊎ (locator.place + locator.size ≤ length bytes)
stands_whole bytes locator other is = of_stands is.stands
  where
    of_stands : (locator.size ≡ 0) ⊎ StandsAt bytes locator.place other.bytes → (locator.size ≡ 0) ⊎ (locator.place + locator.size ≤ length bytes)
    of_stands (inl none) = inl none
    of_stands (inr stands) = inr (omega (arith, stands_within bytes locator.place other.bytes stands, is.size))

-- and it is the one by its place
stands_same : (bytes : List ℕ) (locator : Locator) (other : OtherValue) → IsSectionOf bytes locator other
    → other ≡ section_here bytes locator
stands_same bytes locator other is = section_same other.number locator.number other.bytes (take locator.size (drop locator.place bytes)) is.number (of_stands is.stands)
  where
    of_stands : (locator.size ≡ 0) ⊎ StandsAt bytes locator.place other.bytes → other.bytes ≡ take locator.size (drop locator.place bytes)
    of_stands (inl none) =
        no_letters other.bytes (is.size ∙ none)
        ∙ sym (no_letters (take locator.size (drop locator.place bytes)) (length-take-le locator.size (drop locator.place bytes) (omega arith) ∙ none))
    of_stands (inr stands) = sym (take_stands bytes locator.place other.bytes locator.size stands is.size)

-- where no unknown section is cut, those by their places are those of the locators
pub sections_stand : (bytes : List ℕ) (index : ℕ) (locators : List Locator) → first_cut bytes index locators ≡ None → AreSectionsOf bytes locators (sections_at bytes locators)
sections_stand bytes index [] none = refl
sections_stand bytes index (locator ∷ locators) none =
    let first = first_of_none bytes index locator locators none in
    of_low (nat_lt locator.number 3) refl first (sections_stand bytes (index + 1) locators (sym (first_whole bytes index locator locators first) ∙ none))
  where
    of_low : (low : Bool) → nat_lt locator.number 3 ≡ low → is_cut bytes locator ≡ false → AreSectionsOf bytes locators (sections_at bytes locators)
        → AreSectionsOf bytes (locator ∷ locators) (sections_at bytes (locator ∷ locators))
    of_low true is first others =
        inl (grind (arith, nat_tests), subst (λ test. AreSectionsOf bytes locators (if test then sections_at bytes locators else section_here bytes locator ∷ sections_at bytes locators)) (sym is) others)
    of_low false is first others =
        inr (
          grind (arith, nat_tests),
          section_here bytes locator,
          sections_at bytes locators,
          ap (λ test. if test then sections_at bytes locators else section_here bytes locator ∷ sections_at bytes locators) is,
          section_stands bytes locator (not_cut bytes locator is first),
          others,
        )

-- a locator of another number gives no unknown section
skipped : (bytes : List ℕ) (locator : Locator) (locators : List Locator) → nat_lt locator.number 3 ≡ true → sections_at bytes (locator ∷ locators) ≡ sections_at bytes locators
skipped bytes locator locators is =
    ap (λ test. if test then sections_at bytes locators else section_here bytes locator ∷ sections_at bytes locators) is

-- and one of a number from 3 on does
taken : (bytes : List ℕ) (locator : Locator) (locators : List Locator) → nat_lt locator.number 3 ≡ false
    → sections_at bytes (locator ∷ locators) ≡ section_here bytes locator ∷ sections_at bytes locators
taken bytes locator locators is =
    ap (λ test. if test then sections_at bytes locators else section_here bytes locator ∷ sections_at bytes locators) is

-- the unknown sections of locators aren't cut, and are those by their places
pub sections_are : (bytes : List ℕ) (index : ℕ) (locators : List Locator) (others : List OtherValue) → AreSectionsOf bytes locators others
    → (first_cut bytes index locators ≡ None) × (others ≡ sections_at bytes locators)
unfolding first_cut
sections_are bytes index [] others none = (refl, none)
sections_are bytes index (locator ∷ locators) others (inl (low, more)) =
    let after = sections_are bytes (index + 1) locators others more in
    let is : nat_lt locator.number 3 ≡ true = grind (arith, nat_tests) in
    let here : is_cut bytes locator ≡ false = ap (λ test. not test && nat_lt 0 locator.size && nat_lt (length bytes) (locator.place + locator.size)) is in
    (first_whole bytes index locator locators here ∙ after.0, after.1 ∙ sym (skipped bytes locator locators is))
sections_are bytes index (locator ∷ locators) others (inr (high, other, rest, is, section, more)) =
    let after = sections_are bytes (index + 1) locators rest more in
    let test : nat_lt locator.number 3 ≡ false = grind (arith, nat_tests) in
    let here : is_cut bytes locator ≡ false = cut_not bytes locator (stands_whole bytes locator other section) in
    (first_whole bytes index locator locators here ∙ after.0, is ∙ ap₂ (λ one all. one ∷ all) (stands_same bytes locator other section) after.1 ∙ sym (taken bytes locator locators test))
