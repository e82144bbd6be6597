-- Unknown sections, locator by locator: what is left gives the whole.
use Rattle.std.proofs.Common.{◌≡◌, refl, sym, ◌∙◌, ap, ap₂, ℕ, ◌+◌, ◌<◌, ◌≤◌, Bool, true, false, List, [], ◌∷◌, ◌++◌, length, take, drop, get_or, append_assoc, Option, Some, None, add-one}
use Rattle.std.specs.Prelude.{nat_lt, not, cond, if◌then◌else◌}
use Rattle.std.proofs.Math.Seq.{drop-cons}
use Rattle.std.proofs.lemmas.List.{drop_all}
use Rattle.dwg_base.specs.Refusal.{Refusal}
use Rattle.dwg_sections.specs.declared.header.Locator.{Locator}
use Rattle.dwg_file.specs.Contents.{OtherValue}
use Rattle.dwg_file.specs.FileLines.{is_cut, first_cut}
use Rattle.dwg_file.specs.ReadAs.{sections_at, whole_locators}

-- the locators left after so many, by the next of them
left_of : (locators : List Locator) (index : ℕ) (locator none : Locator) → index < length locators → locator ≡ get_or locators index none → drop index locators ≡ locator ∷ drop (index + 1) locators
left_of locators index locator none within is =
    drop-cons locators index none within ∙ ap₂ (λ (l : Locator) (n : ℕ). l ∷ drop n locators) (sym is) (sym (add-one index))

-- the next locator decides, or those after it
cut_next : (bytes : List ℕ) (index : ℕ) (locators : List Locator) (locator none : Locator) (cut : Bool) → index < length locators → locator ≡ get_or locators index none → is_cut bytes locator ≡ cut
    → first_cut bytes index (drop index locators)
    ≡ (if cut then Some (record { line = 33; index = index; place = locator.place }) else first_cut bytes (index + 1) (drop (index + 1) locators))
unfolding first_cut
cut_next bytes index locators locator none cut within is test =
    ap (first_cut bytes index) (left_of locators index locator none within is)
    ∙ ap (λ (t : Bool). if t then Some (record { line = 33; index = index; place = locator.place }) else first_cut bytes (index + 1) (drop (index + 1) locators)) test

-- a section that is cut is refused
pub cut_here : (bytes : List ℕ) (index : ℕ) (locators : List Locator) (locator none : Locator) (whole : Option Refusal) → index < length locators → locator ≡ get_or locators index none
    → is_cut bytes locator ≡ true → first_cut bytes index (drop index locators) ≡ whole → Some (record { line = 33; index = index; place = locator.place }) ≡ whole
cut_here bytes index locators locator none whole within is test left = sym (cut_next bytes index locators locator none true within is test) ∙ left

-- after one that isn't, what is left gives the whole
pub cut_after : (bytes : List ℕ) (index : ℕ) (locators : List Locator) (locator none : Locator) (whole : Option Refusal) → index < length locators → locator ≡ get_or locators index none
    → is_cut bytes locator ≡ false → first_cut bytes index (drop index locators) ≡ whole → first_cut bytes (index + 1) (drop (index + 1) locators) ≡ whole
cut_after bytes index locators locator none whole within is test left = sym (cut_next bytes index locators locator none false within is test) ∙ left

-- after the last, none is refused
pub none_cut : (bytes : List ℕ) (index : ℕ) (locators : List Locator) (whole : Option Refusal) → length locators ≤ index → first_cut bytes index (drop index locators) ≡ whole → None ≡ whole
unfolding first_cut
none_cut bytes index locators whole past left = sym (ap (first_cut bytes index) (drop_all index locators past)) ∙ left

-- where no section is refused, all locators stay
all_whole : (bytes : List ℕ) (index : ℕ) (locators : List Locator) → first_cut bytes index locators ≡ None → whole_locators bytes locators ≡ locators
unfolding first_cut
all_whole bytes index [] none = refl
all_whole bytes index (locator ∷ locators) none = by_test (is_cut bytes locator) none (all_whole bytes (index + 1) locators)
  where
    by_test : (cut : Bool) → (if cut then Some (record { line = 33; index = index; place = locator.place }) else first_cut bytes (index + 1) locators) ≡ None
        → (first_cut bytes (index + 1) locators ≡ None → whole_locators bytes locators ≡ locators)
        → cond (not cut) (locator ∷ whole_locators bytes locators) (whole_locators bytes locators) ≡ locator ∷ locators
    by_test true refused others = absurd cc
    by_test false none others = ap (λ rest. locator ∷ rest) (others none)

-- so the sections that are whole are all
pub uncut_sections : (bytes : List ℕ) (locators : List Locator) (others : List OtherValue) → first_cut bytes 0 locators ≡ None
    → others ≡ sections_at bytes (whole_locators bytes locators) → others ≡ sections_at bytes locators
uncut_sections bytes locators others none whole = whole ∙ ap (sections_at bytes) (all_whole bytes 0 locators none)

-- the section of one locator, and those of the locators after it
section_first : (bytes : List ℕ) (locator : Locator) (locators : List Locator) → sections_at bytes (locator ∷ locators) ≡ sections_at bytes (locator ∷ []) ++ sections_at bytes locators
section_first bytes locator locators = by_test (nat_lt locator.number 3)
  where
    by_test : (known : Bool) → (if known then sections_at bytes locators else record { number = locator.number; bytes = take locator.size (drop locator.place bytes) } ∷ sections_at bytes locators)
        ≡ (if known then [] else record { number = locator.number; bytes = take locator.size (drop locator.place bytes) } ∷ []) ++ sections_at bytes locators
    by_test true = refl
    by_test false = refl

-- the same of the sections that are whole
whole_first : (bytes : List ℕ) (locator : Locator) (locators : List Locator)
    → sections_at bytes (whole_locators bytes (locator ∷ locators)) ≡ sections_at bytes (whole_locators bytes (locator ∷ [])) ++ sections_at bytes (whole_locators bytes locators)
whole_first bytes locator locators = by_test (is_cut bytes locator)
  where
    rest : List Locator
    rest = whole_locators bytes locators

    by_test : (cut : Bool) → sections_at bytes (cond (not cut) (locator ∷ rest) rest) ≡ sections_at bytes (cond (not cut) (locator ∷ []) []) ++ sections_at bytes rest
    by_test true = refl
    by_test false = section_first bytes locator rest

-- with the section of the next locator, what is left gives the whole
pub sections_on : (bytes : List ℕ) (index : ℕ) (locators : List Locator) (locator none : Locator) (others more : List OtherValue) (whole : List OtherValue) → index < length locators
    → locator ≡ get_or locators index none → more ≡ others ++ sections_at bytes (whole_locators bytes (locator ∷ []))
    → others ++ sections_at bytes (whole_locators bytes (drop index locators)) ≡ whole
    → more ++ sections_at bytes (whole_locators bytes (drop (index + 1) locators)) ≡ whole
sections_on bytes index locators locator none others more whole within is added left =
    let rest : List OtherValue = sections_at bytes (whole_locators bytes (drop (index + 1) locators)) in
    ap (λ all. all ++ rest) added ∙ append_assoc others (sections_at bytes (whole_locators bytes (locator ∷ []))) rest
    ∙ ap (λ all. others ++ all)
    (sym (whole_first bytes locator (drop (index + 1) locators)) ∙ sym (ap (λ all. sections_at bytes (whole_locators bytes all)) (left_of locators index locator none within is)))
    ∙ left
