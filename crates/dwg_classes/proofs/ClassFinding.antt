-- Finding a class by its number: what the first place of a test says of the list.
use Rattle.std.proofs.Common.{◌≡◌, refl, sym, subst, ℕ, ◌+◌, Bool, true, false, List, [], ◌∷◌, Option, Some, None, arith}
use Rattle.std.specs.Prelude.{◌==◌, cond, IfSome, IfNone}
use Rattle.std.specs.List.{position, position_from}
use Rattle.std.proofs.lemmas.Bool.Decides.{Decides-eqb}
use Rattle.std.proofs.lemmas.Iterator.Adapters.{position_from-zero}
use Rattle.dwg_base.specs.FirstItem.{HaveOther}
use Rattle.dwg_base.proofs.FirstItem.{other_number, first_before, first_after}
use Rattle.dwg_classes.specs.declared.class.Class.{Class}
use Rattle.dwg_classes.specs.FirstClass.{number_of, IsFirst}

-- what a place that is counted from another says: the first class of a number is so much further, or none has it
abbrev IsFound : List Class → ℕ → ℕ → Option ℕ → Type 0
IsFound classes number from (Some place) = (more : ℕ) × (place ≡ from + more) × IsFirst classes number more
IsFound classes number from None = HaveOther number_of number classes

-- one class more before, by what its test says
one_before : (class : Class) (classes : List Class) (number from : ℕ) (test : Bool) (others : Option ℕ) → (class.number == number) ≡ test → IsFound classes number (from + 1) others
    → IsFound (class ∷ classes) number from (cond test (Some from) others)
one_before class classes number from true others passed after = (
  0,
  omega arith,
  record {
    class = class;
    before = [];
    first = first_before number_of class classes number ((Decides-eqb class.number number).0 passed);
    far = refl;
  },
)
one_before class classes number from false (Some place) failed (more, at, is) = (
  more + 1,
  omega (arith, at),
  record {
    class = is.class;
    before = class ∷ is.before;
    first = first_after number_of class is.class classes is.before number (other_number class.number number failed) is.first;
    far = omega (arith, is.far);
  },
)
one_before class classes number from false None failed after = (other_number class.number number failed, after)

-- the first place from a place on
found_from : (classes : List Class) (number from : ℕ) → IsFound classes number from (position_from (λ (class : Class). class.number == number) from classes)
found_from [] number from = tt
found_from (class ∷ classes) number from =
    one_before class classes number from (class.number == number) (position_from (λ (class : Class). class.number == number) (from + 1) classes) refl (found_from classes number (from + 1))

-- the first place from the begin on
found_first : (classes : List Class) (number : ℕ) → IsFound classes number 0 (position (λ (class : Class). class.number == number) classes)
found_first classes number =
    subst (IsFound classes number 0) (sym (position_from-zero (λ (class : Class). class.number == number) classes)) (found_from classes number 0)

-- where a place is found, the class there is the first of the number
pub found_some : (classes : List Class) (number : ℕ) (found : Option ℕ) → found ≡ position (λ (class : Class). class.number == number) classes → IfSome found (IsFirst classes number)
found_some classes number None same = tt
found_some classes number (Some place) same =
    let found : IsFound classes number 0 (Some place) = subst (IsFound classes number 0) (sym same) (found_first classes number) in
    let at : found.0 ≡ place = omega (arith, found.1) in
    subst (IsFirst classes number) at found.2

-- where none is found, no class has the number
pub found_none : (classes : List Class) (number : ℕ) (found : Option ℕ) → found ≡ position (λ (class : Class). class.number == number) classes → IfNone found (HaveOther number_of number classes)
found_none classes number None same = subst (IsFound classes number 0) (sym same) (found_first classes number)
found_none classes number (Some place) same = tt
