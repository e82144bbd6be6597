-- Laws of lists: what joined lists contain, and lists of which each pair is related.
use Rattle.std.proofs.Common.{◌≡◌, sym, refl, subst, subst₂, ⊎_elim, arith}
use Rattle.std.proofs.Math.ListN.{get_or-map}
use Rattle.std.proofs.lemmas.List.{length-map}
use Rattle.std.proofs.lemmas.List.Kept.{AllPairs-cons}
use Rattle.std.proofs.lemmas.List.Elements.{Contains-append_left, Contains-append_right, Contains-append_cases, Contains-get_or}
use Rattle.std.specs.Prelude.{suc, ◌↔◌, List, [], ◌∷◌, ◌++◌, map, slice_index_or, Contains, AllPairs}
use Rattle.std.specs.List.{flat_map}
use Rattle.dwg_chains.proofs.MemberLemmas.{contains_none, contains_first, contains_after, contains_cases}

-- a list that contains nothing is empty
pub empty_of_none : {A : Type 0} (xs : List A) → ((x : A) → Contains xs x → ⊥) → xs ≡ []
empty_of_none [] none = refl
empty_of_none (x ∷ xs) none = absurd (none x (contains_first x xs))

-- an empty list contains nothing
pub none_of_empty : {A : Type 0} (xs : List A) (x : A) → xs ≡ [] → Contains xs x → ⊥
none_of_empty {A} xs x is inside = contains_none x (subst (λ (those : List A). Contains those x) is inside)

-- the one thing of a list is what that contains
pub contains_one : {A : Type 0} (x y : A) → Contains (x ∷ []) y ↔ y ≡ x
contains_one {A} x y = (
  λ inside. ⊎_elim (λ same. sym same) (λ after. absurd (contains_none y after)) (contains_cases x [] y inside),
  λ same. subst (λ (z : A). Contains (x ∷ []) z) (sym same) (contains_first x []),
)

-- what a list contains stands in its map, mapped
pub contains_map : {A B : Type 0} (turn : A → B) (xs : List A) (x : A) → Contains xs x → Contains (map turn xs) (turn x)
contains_map turn [] x inside = absurd (contains_none x inside)
contains_map {A} turn (y ∷ ys) x inside = ⊎_elim
    (λ same. subst (λ (z : A). Contains (map turn (y ∷ ys)) (turn z)) same (contains_first (turn y) (map turn ys)))
    (λ after. contains_after (turn y) (map turn ys) (turn x) (contains_map turn ys x after))
    (contains_cases y ys x inside)

-- what stands in joined lists stands in one of them
pub contained_in_one : {A B : Type 0} (each : A → List B) (xs : List A) (y : B) → Contains (flat_map each xs) y → (x : A) × Contains xs x × Contains (each x) y
contained_in_one each [] y inside = absurd (contains_none y inside)
contained_in_one each (x ∷ xs) y inside = ⊎_elim
    (λ here. (x, contains_first x xs, here))
    (λ after. let one = contained_in_one each xs y after in (one.0, contains_after x xs one.0 one.1, one.2))
    (Contains-append_cases (each x) (flat_map each xs) y inside)

-- what stands in one of joined lists stands in them
pub contained_in_all : {A B : Type 0} (each : A → List B) (xs : List A) (x : A) (y : B) → Contains xs x → Contains (each x) y → Contains (flat_map each xs) y
contained_in_all each [] x y inside held = absurd (contains_none x inside)
contained_in_all {A} each (z ∷ zs) x y inside held = ⊎_elim
    (λ same. Contains-append_left (each z) (flat_map each zs) y (subst (λ (w : A). Contains (each w) y) (sym same) held))
    (λ after. Contains-append_right (each z) (flat_map each zs) y (contained_in_all each zs x y after held))
    (contains_cases z zs x inside)

-- the first thing is related to each after it
pub pairs_first : {A : Type 0} (R : A → A → Type 0) (x : A) (xs : List A) (y : A) → AllPairs R (x ∷ xs) → Contains xs y → R x y
pairs_first R x xs y pairs inside = subst (λ z. R x z) inside.2 (pairs 0 (suc inside.0) y (omega arith) (omega (arith, inside.1)))

-- the things after the first are related
pub pairs_after : {A : Type 0} (R : A → A → Type 0) (x : A) (xs : List A) → AllPairs R (x ∷ xs) → AllPairs R xs
pairs_after R x xs pairs i j d before within = pairs (suc i) (suc j) d (omega (arith, before)) (omega (arith, within))

-- no things are related
pub pairs_none : {A : Type 0} (R : A → A → Type 0) → AllPairs R []
pairs_none R i j d before within = absurd (omega (arith, within))

-- things are related with one before them, if that is related to each
pub pairs_more : {A : Type 0} (R : A → A → Type 0) (x : A) (xs : List A) → ((y : A) → Contains xs y → R x y) → AllPairs R xs → AllPairs R (x ∷ xs)
pairs_more R x xs first pairs = AllPairs-cons R x xs (λ k d within. first (slice_index_or xs k d) (Contains-get_or xs k d within)) pairs

-- the things of two lists are related, if each of the first is related to each of the second
pub pairs_joined : {A : Type 0} (R : A → A → Type 0) (xs ys : List A) → AllPairs R xs → AllPairs R ys → ((x y : A) → Contains xs x → Contains ys y → R x y) → AllPairs R (xs ++ ys)
pairs_joined R [] ys pairs others across = others
pairs_joined R (x ∷ xs) ys pairs others across =
    pairs_more R x (xs ++ ys)
    (λ y inside. ⊎_elim (λ here. pairs_first R x xs y pairs here) (λ there. across x y (contains_first x xs) there) (Contains-append_cases xs ys y inside))
    (pairs_joined R xs ys (pairs_after R x xs pairs) others (λ y z inside there. across y z (contains_after x xs y inside) there))

-- things are related where what they are mapped to is
pub pairs_of_map : {A B : Type 0} (R : B → B → Type 0) (turn : A → B) (xs : List A) → AllPairs R (map turn xs) → AllPairs (λ x y. R (turn x) (turn y)) xs
pairs_of_map R turn xs pairs i j d before within = subst₂ R (get_or-map turn xs i d) (get_or-map turn xs j d) (pairs i j (turn d) before (rw length-map within))

-- the things of joined lists are related, if those of each are, and those of related ones to each other
pub pairs_of_joined : {A B : Type 0} (P : A → A → Type 0) (R : B → B → Type 0) (each : A → List B) (xs : List A) → AllPairs P xs → ((x : A) → Contains xs x → AllPairs R (each x))
    → ((x y : A) (z w : B) → Contains xs x → Contains xs y → P x y → Contains (each x) z → Contains (each y) w → R z w) → AllPairs R (flat_map each xs)
pairs_of_joined P R each [] pairs own across = pairs_none R
pairs_of_joined P R each (x ∷ xs) pairs own across =
    pairs_joined R (each x) (flat_map each xs) (own x (contains_first x xs))
    (pairs_of_joined P R each xs (pairs_after P x xs pairs) (λ y inside. own y (contains_after x xs y inside))
    (λ y z v w inside also. across y z v w (contains_after x xs y inside) (contains_after x xs z also)))
    (λ z w here there.
    let one = contained_in_one each xs w there in across x one.0 z w (contains_first x xs) (contains_after x xs one.0 one.1) (pairs_first P x xs one.0 pairs one.1) here one.2)
