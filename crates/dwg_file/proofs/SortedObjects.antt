-- Objects of distinct handles have an ascending order. A rule of this project.
use Rattle.std.proofs.Common.{◌≡◌, refl, ℕ, suc, ◌<◌, Bool, true, false, List, [], ◌∷◌, length, arith}
use Rattle.std.specs.Prelude.{◌≢◌, ⊤, map, nat_lt, slice_index, if◌then◌else◌}
use Rattle.std.specs.List.{All}
use Rattle.std.specs.List.Sorted.{IsPermutation}
use Rattle.std.proofs.lemmas.Bool.Decides.{nat_tests}
use Rattle.std.proofs.lemmas.List.Elements.{All-nil, All-cons, All-head, All-tail, All-weaker}
use Rattle.std.proofs.lemmas.List.Kept.{AllPairs-cons}
use Rattle.std.proofs.lemmas.List.Sorted.{IsPermutation-refl, IsPermutation-cons, IsPermutation-trans, IsPermutation-middle, All-permutation}
use Rattle.dwg_object.specs.Objects.{ObjectValue, handle_of}
use Rattle.dwg_file.specs.Spelled.{AreAscending}
use Rattle.dwg_file.specs.SortedObjects.{inserted, sorted}

-- that puts no other object in, and leaves none out
inserted_same : (object : ObjectValue) (objects : List ObjectValue) → IsPermutation (object ∷ objects) (inserted object objects)
unfolding inserted
inserted_same object [] = IsPermutation-refl (object ∷ [])
inserted_same object (first ∷ rest) = of_test (nat_lt (handle_of object) (handle_of first)) (inserted_same object rest)
  where
    of_test : (test : Bool) → IsPermutation (object ∷ rest) (inserted object rest) → IsPermutation (object ∷ first ∷ rest) (if test then object ∷ first ∷ rest else first ∷ inserted object rest)
    of_test true same = IsPermutation-refl (object ∷ first ∷ rest)
    of_test false same =
        IsPermutation-trans (object ∷ first ∷ rest) (first ∷ object ∷ rest) (first ∷ inserted object rest) (IsPermutation-middle (object ∷ []) first rest)
        (IsPermutation-cons first (object ∷ rest) (inserted object rest) same)

-- nor does putting all
pub sorted_same : (objects : List ObjectValue) → IsPermutation objects (sorted objects)
unfolding sorted
sorted_same [] = IsPermutation-refl []
sorted_same (object ∷ objects) =
    IsPermutation-trans (object ∷ objects) (object ∷ sorted objects) (inserted object (sorted objects)) (IsPermutation-cons object objects (sorted objects) (sorted_same objects))
    (inserted_same object (sorted objects))

-- two objects have other handles, and one is below the other
abbrev Differ : ObjectValue → ObjectValue → Type 0
Differ one other = handle_of one ≢ handle_of other

abbrev Below : ObjectValue → ObjectValue → Type 0
Below one other = handle_of one < handle_of other

-- one object ascends
one_ascends : (object : ObjectValue) → AreAscending (object ∷ [])
one_ascends object i j d before within = absurd (omega arith)

-- an object of a new handle among others that ascend
inserted_ascends : (object : ObjectValue) (objects : List ObjectValue) → AreAscending objects → All (Differ object) objects → AreAscending (inserted object objects)
unfolding inserted
inserted_ascends object [] up differ = one_ascends object
inserted_ascends object (first ∷ rest) up differ =
    of_test (nat_lt (handle_of object) (handle_of first)) refl
    (inserted_ascends object rest (λ i j d before within. up (suc i) (suc j) d (omega arith) (omega arith)) (All-tail (Differ object) first rest differ))
  where
    above : All (Below first) rest
    above = λ k d within. up 0 (suc k) d (omega arith) (omega arith)

    of_test : (test : Bool) → nat_lt (handle_of object) (handle_of first) ≡ test → AreAscending (inserted object rest)
        → AreAscending (if test then object ∷ first ∷ rest else first ∷ inserted object rest)
    of_test true is others =
        let low : handle_of object < handle_of first = grind (arith, nat_tests) in
        AllPairs-cons Below object (first ∷ rest)
        (All-cons (Below object) first rest low (All-weaker (Below first) (Below object) (λ other after. omega (arith, low, after)) rest above)) up
    of_test false is others =
        let other : handle_of object ≢ handle_of first = All-head (Differ object) first rest differ in
        let high : handle_of first < handle_of object = grind (arith, nat_tests, other) in
        AllPairs-cons Below first (inserted object rest)
        (All-permutation (Below first) (object ∷ rest) (inserted object rest) (inserted_same object rest) (All-cons (Below first) object rest high above)) others

-- each object has another handle than all after it
abbrev pub AreDistinct : List ObjectValue → Type 0
AreDistinct [] = ⊤
AreDistinct (object ∷ objects) = All (Differ object) objects × AreDistinct objects

-- objects of distinct handles ascend when each is put in its place
pub sorted_ascends : (objects : List ObjectValue) → AreDistinct objects → AreAscending (sorted objects)
unfolding sorted
sorted_ascends [] distinct = λ i j d before within. absurd (omega arith)
sorted_ascends (object ∷ objects) distinct =
    inserted_ascends object (sorted objects) (sorted_ascends objects distinct.1) (All-permutation (Differ object) objects (sorted objects) (sorted_same objects) distinct.0)

-- a handle that no other object has
differ_from : (object : ObjectValue) (objects : List ObjectValue) → ((k : ℕ) → k < length (map handle_of objects) → handle_of object ≢ slice_index (map handle_of objects) k) → All (Differ object) objects
differ_from object [] differ = All-nil (Differ object)
differ_from object (other ∷ objects) differ =
    All-cons (Differ object) other objects (differ 0 (omega arith)) (differ_from object objects (λ k within. differ (suc k) (omega arith)))

-- handles that are distinct by their places
pub distinct_objects : (objects : List ObjectValue)
    → ((i j : ℕ) → i < j → j < length (map handle_of objects) → slice_index (map handle_of objects) i ≢ slice_index (map handle_of objects) j) → AreDistinct objects
distinct_objects [] distinct = tt
distinct_objects (object ∷ objects) distinct = (
  differ_from object objects (λ k within. distinct 0 (suc k) (omega arith) (omega arith)),
  distinct_objects objects (λ i j before within. distinct (suc i) (suc j) (omega arith) (omega arith)),
)
