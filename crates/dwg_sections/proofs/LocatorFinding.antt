-- Finding a locator by its number: what the first that is found says of the list.
use Rattle.std.proofs.Common.{◌≡◌, refl, sym, ap, subst, ℕ, zero, suc, ◌<◌, Bool, true, false, List, [], ◌∷◌, length, Option, Some, None, arith}
use Rattle.std.specs.Prelude.{◌≢◌, ◌==◌, cond, Contains, find, option_map, slice_index_or, IfSome, IfNone}
use Rattle.std.proofs.lemmas.Bool.Decides.{Decides-eqb}
use Rattle.std.proofs.lemmas.List.{length-map}
use Rattle.std.proofs.lemmas.List.Elements.{Contains-append_right}
use Rattle.dwg_base.specs.FirstItem.{HaveOther, IsFirstOf}
use Rattle.dwg_base.proofs.FirstItem.{other_number, first_before, first_after}
use Rattle.dwg_sections.specs.declared.header.Locator.{Locator}
use Rattle.dwg_sections.specs.FileHeader.{locator_numbers}
use Rattle.dwg_sections.specs.HeaderLines.{place_of}
use Rattle.dwg_sections.specs.FirstLocator.{number_of, IsFirstPlace}
use Rattle.dwg_sections.specs.HeaderLaws.{SectionsAreLocated}

-- whether a locator has the number
abbrev has_number : ℕ → Locator → Bool
has_number number locator = locator.number == number

-- what is found says so, or that no locator has the number
abbrev IsFound : List Locator → ℕ → Option Locator → Type 0
IsFound locators number (Some locator) = (before : List Locator) × IsFirstOf number_of locators number locator before
IsFound locators number None = HaveOther number_of number locators

-- one locator more before, by what its test says
one_before : (locator : Locator) (locators : List Locator) (number : ℕ) (test : Bool) (others : Option Locator) → (locator.number == number) ≡ test → IsFound locators number others
    → IsFound (locator ∷ locators) number (cond test (Some locator) others)
one_before locator locators number true others passed after = ([], first_before number_of locator locators number ((Decides-eqb locator.number number).0 passed))
one_before locator locators number false (Some found) failed (before, is) =
    (locator ∷ before, first_after number_of locator found locators before number (other_number locator.number number failed) is)
one_before locator locators number false None failed after = (other_number locator.number number failed, after)

-- what is found
found_first : (locators : List Locator) (number : ℕ) → IsFound locators number (find (has_number number) locators)
found_first [] number = tt
found_first (locator ∷ locators) number =
    one_before locator locators number (locator.number == number) (find (has_number number) locators) refl (found_first locators number)

-- the place in what is found
place_in : (locators : List Locator) (number : ℕ) (found : Option Locator) → IsFound locators number found
    → IfSome (option_map (λ (locator : Locator). locator.place) found) (IsFirstPlace locators number)
place_in locators number None others = tt
place_in locators number (Some locator) (before, is) = record {
  locator = locator;
  before = before;
  first = is;
  says = refl;
}

-- and that there is none
none_in : (locators : List Locator) (number : ℕ) (found : Option Locator) → IsFound locators number found
    → IfNone (option_map (λ (locator : Locator). locator.place) found) (HaveOther number_of number locators)
none_in locators number None others = others
none_in locators number (Some locator) is = tt

-- where a place is found, it is that of the first locator of the number
pub place_found : (locators : List Locator) (number : ℕ) (found : Option ℕ) → found ≡ place_of number locators → IfSome found (IsFirstPlace locators number)
place_found locators number found same =
    subst (λ place. IfSome place (IsFirstPlace locators number)) (sym same) (place_in locators number (find (has_number number) locators) (found_first locators number))

-- where none is found, no locator has the number
pub place_not_found : (locators : List Locator) (number : ℕ) (found : Option ℕ) → found ≡ place_of number locators → IfNone found (HaveOther number_of number locators)
place_not_found locators number found same =
    subst (λ place. IfNone place (HaveOther number_of number locators)) (sym same) (none_in locators number (find (has_number number) locators) (found_first locators number))

-- a number that no locator has isn't among the numbers
not_among : (locators : List Locator) (number i : ℕ) → HaveOther number_of number locators → i < length locators → slice_index_or (locator_numbers locators) i number ≢ number
not_among [] number i others inside = absurd (omega arith)
not_among (locator ∷ locators) number zero others inside = others.0
not_among (locator ∷ locators) number (suc i) others inside = not_among locators number i others.1 (omega arith)

-- the first locator of a number stands in the list
stands : (locators before : List Locator) (number : ℕ) (locator : Locator) → IsFirstOf number_of locators number locator before → Contains locators locator
stands locators before number locator is =
    subst (λ (all : List Locator). Contains all locator) (sym is.whole)
    (Contains-append_right before (locator ∷ is.after) locator (0, omega arith, refl))

-- where a number is among those of the locators, what is found locates it
located_by : (locators : List Locator) (number : ℕ) (found : Option Locator) → find (has_number number) locators ≡ found → IsFound locators number found → Contains (locator_numbers locators) number
    → (locator : Locator) × Contains locators locator × (locator.number ≡ number) × (place_of number locators ≡ Some locator.place)
located_by locators number None same others there =
    absurd (not_among locators number there.0 others (omega (arith, there.1, length-map locators (λ (locator : Locator). locator.number))) there.2)
located_by locators number (Some locator) same (before, is) there =
    (locator, stands locators before number locator is, is.has, ap (option_map (λ (one : Locator). one.place)) same)

-- a header locates the sections
pub sections_are_located : SectionsAreLocated
sections_are_located header number is below =
    located_by header.locators number (find (has_number number) header.locators) refl (found_first header.locators number) (is.sections.located number below)
