-- Objects in ascending order of handle: there is one such order. A rule of this project.
use Rattle.std.proofs.Common.{◌≡◌, refl, sym, ap, ap₂, subst, zero, suc, ◌<◌, ◌≤◌, List, [], ◌∷◌, inl, inr, arith}
use Rattle.std.specs.Prelude.{◌⊎◌, Contains}
use Rattle.std.specs.List.Sorted.{IsPermutation}
use Rattle.std.proofs.lemmas.List.Sorted.{IsPermutation-sym, Contains-permutation}
use Rattle.dwg_object.specs.Objects.{ObjectValue, handle_of}
use Rattle.dwg_file.specs.Spelled.{AreAscending}

-- what a list contains is its first, or is contained after it
contained : (first : ObjectValue) (rest : List ObjectValue) (object : ObjectValue) → Contains (first ∷ rest) object → (first ≡ object) ⊎ Contains rest object
contained first rest object (zero, within, is) = inl is
contained first rest object (suc k, within, is) = inr (k, omega arith, is)

-- what is contained after the first has a greater handle
above : (first : ObjectValue) (rest : List ObjectValue) (object : ObjectValue) → AreAscending (first ∷ rest) → Contains rest object → handle_of first < handle_of object
above first rest object up (k, within, is) = subst (λ (other : ObjectValue). handle_of first < handle_of other) is (up 0 (suc k) object (omega arith) (omega arith))

-- what is contained in a list has no lower a handle than its first
least : (first : ObjectValue) (rest : List ObjectValue) (object : ObjectValue) → AreAscending (first ∷ rest) → Contains (first ∷ rest) object → handle_of first ≤ handle_of object
least first rest object up has = of_cases (contained first rest object has)
  where
    of_cases : (first ≡ object) ⊎ Contains rest object → handle_of first ≤ handle_of object
    of_cases (inl same) = omega (arith, ap handle_of same)
    of_cases (inr after) = omega (arith, above first rest object up after)

-- what stands after the first ascends
ascending_after : (first : ObjectValue) (rest : List ObjectValue) → AreAscending (first ∷ rest) → AreAscending rest
ascending_after first rest up = λ i j d before within. up (suc i) (suc j) d (omega arith) (omega arith)

-- the firsts of ascending lists that contain each other are one
firsts_same : (one other : ObjectValue) (ones others : List ObjectValue) → AreAscending (one ∷ ones) → AreAscending (other ∷ others)
    → Contains (other ∷ others) one → Contains (one ∷ ones) other → one ≡ other
firsts_same one other ones others up also has had = of_cases (contained other others one has)
  where
    of_cases : (other ≡ one) ⊎ Contains others one → one ≡ other
    of_cases (inl same) = sym same
    of_cases (inr after) = absurd (omega (arith, above other others one also after, least one ones other up had))

-- each object of a list is contained in another
abbrev AreWithin : List ObjectValue → List ObjectValue → Type 0
AreWithin objects others = (object : ObjectValue) → Contains objects object → Contains others object

-- what stands after firsts that are one is contained in what stands after
within_after : (one other : ObjectValue) (ones others : List ObjectValue) → one ≡ other → AreAscending (one ∷ ones) → AreWithin (one ∷ ones) (other ∷ others) → AreWithin ones others
within_after one other ones others same up within object (k, inside, is) = of_cases (contained other others object (within object (suc k, omega arith, is)))
  where
    of_cases : (other ≡ object) ⊎ Contains others object → Contains others object
    of_cases (inl here) = absurd (omega (arith, above one ones object up (k, inside, is), ap handle_of same, ap handle_of here))
    of_cases (inr after) = after

-- ascending lists that contain each other are one
within_once : (ones others : List ObjectValue) → AreAscending ones → AreAscending others → AreWithin ones others → AreWithin others ones → ones ≡ others
within_once [] [] up also within had = refl
within_once [] (other ∷ others) up also within had = let none = had other (0, omega arith, refl) in absurd (omega (arith, none.1))
within_once (one ∷ ones) [] up also within had = let none = within one (0, omega arith, refl) in absurd (omega (arith, none.1))
within_once (one ∷ ones) (other ∷ others) up also within had =
    let same = firsts_same one other ones others up also (within one (0, omega arith, refl)) (had other (0, omega arith, refl)) in
    ap₂ (λ first back. first ∷ back) same
    (within_once ones others (ascending_after one ones up) (ascending_after other others also) (within_after one other ones others same up within)
    (within_after other one others ones (sym same) also had))

-- objects have one ascending order
pub order_once : (values ones others : List ObjectValue) → IsPermutation values ones → IsPermutation values others → AreAscending ones → AreAscending others → ones ≡ others
order_once values ones others one other up also =
    within_once ones others up also
    (λ object has. Contains-permutation values others object other (Contains-permutation ones values object (IsPermutation-sym values ones one) has))
    (λ object has. Contains-permutation values ones object one (Contains-permutation others values object (IsPermutation-sym values others other) has))
