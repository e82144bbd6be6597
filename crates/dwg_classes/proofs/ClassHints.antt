-- What the classes say of a number: the first class with it decides.
use Rattle.std.proofs.Common.{◌≡◌, refl, sym, ◌∙◌, ap, ℕ, true, false, List, [], ◌∷◌, ◌++◌, length, get_or, Option, Some, None, arith}
use Rattle.std.specs.Prelude.{◌≢◌, ◌==◌, find}
use Rattle.std.proofs.lemmas.Bool.Decides.{nat_tests}
use Rattle.dwg_kinds.specs.declared.number.ClassHint.TheVariants.{Absent}
use Rattle.dwg_base.specs.FirstItem.{HaveOther}
use Rattle.dwg_classes.specs.declared.class.Class.{Class}
use Rattle.dwg_classes.specs.FirstClass.{number_of, IsFirst}
use Rattle.dwg_classes.specs.Hints.{hint_of_class, hint_of_any, hint_at}

-- the first class with a number
abbrev pub first_with : ℕ → List Class → Option Class
first_with number classes = find (λ (class : Class). class.number == number) classes

-- where no class has the number, none is found
none_found : (classes : List Class) (number : ℕ) → HaveOther number_of number classes → first_with number classes ≡ None
none_found [] number others = refl
none_found (class ∷ classes) number others =
    let test : (class.number == number) ≡ false = grind (arith, nat_tests, others.0) in
    rw test (none_found classes number others.1)

-- after classes with other numbers, the first that has it is found
one_found : (before after : List Class) (class : Class) (number : ℕ) → HaveOther number_of number before → class.number ≡ number → first_with number (before ++ class ∷ after) ≡ Some class
one_found [] after class number others has =
    let test : (class.number == number) ≡ true = grind (arith, nat_tests) in
    rw test refl
one_found (other ∷ before) after class number others has =
    let test : (other.number == number) ≡ false = grind (arith, nat_tests, others.0) in
    rw test (one_found before after class number others.1 has)

-- the class after others stands at the place of their length
class_there : (before after : List Class) (class other : Class) → get_or (before ++ class ∷ after) (length before) other ≡ class
class_there [] after class other = refl
class_there (first ∷ before) after class other = class_there before after class other

-- where no class has the number, its hint is that it is absent
pub none_reported : (classes : List Class) (number : ℕ) → HaveOther number_of number classes → hint_at classes number ≡ Absent
unfolding hint_at
none_reported classes number others = ap hint_of_any (none_found classes number others)

-- where a class is the first with the number, it decides
pub first_reported : (classes : List Class) (number place : ℕ) (is : IsFirst classes number place) → hint_at classes number ≡ hint_of_class is.class
unfolding hint_at
first_reported classes number place is =
    let first = is.first in
    ap (λ all. hint_of_any (first_with number all)) first.whole ∙ ap hint_of_any (one_found is.before first.after is.class number first.others first.has)

-- and so does what stands at its place
pub place_reported : (classes : List Class) (number place : ℕ) (class : Class) → IsFirst classes number place → class ≡ get_or classes place class → hint_of_class class ≡ hint_at classes number
place_reported classes number place class is here =
    let there : get_or classes place class ≡ is.class =
    ap (λ all. get_or all place class) is.first.whole ∙ (ap (λ at. get_or (is.before ++ is.class ∷ is.first.after) at class) (sym is.far) ∙ class_there is.before is.first.after is.class class) in
    ap hint_of_class (here ∙ there) ∙ sym (first_reported classes number place is)

-- no class says that it is absent
pub never_absent : (class : Class) → hint_of_class class ≢ Absent
unfolding hint_of_class
never_absent class = λ same. absurd (grind arith)
