-- Laws of what lists contain, and that distinct things which are all contained in a list are at most as many as it.
use Rattle.std.proofs.Common.{◌≡◌, sym, refl, ap, subst, inl, inr, ⊎_elim, arith, suc-le-suc, zero-le, length-append}
use Rattle.std.proofs.lemmas.List.Elements.{Contains-append_left, Contains-append_right, Contains-append_cases}
use Rattle.std.specs.Prelude.{ℕ, zero, suc, ◌<◌, ◌≤◌, ◌⊎◌, List, [], ◌∷◌, ◌++◌, length, slice_index_or, Contains}
use Rattle.dwg_chains.specs.Paths.{AreDistinct}

-- nothing is in the empty list
pub contains_none : {A : Type 0} (x : A) → Contains [] x → ⊥
contains_none x inside = omega (arith, inside.1)

-- the first thing of a list is in it
pub contains_first : {A : Type 0} (x : A) (rest : List A) → Contains (x ∷ rest) x
contains_first x rest = (0, omega arith, refl)

-- what is after the first thing is in the list
pub contains_after : {A : Type 0} (x : A) (rest : List A) (y : A) → Contains rest y → Contains (x ∷ rest) y
contains_after x rest y inside = (suc inside.0, suc-le-suc inside.1, inside.2)

-- what stands at a place is the first thing, or stands after it
contains_at : {A : Type 0} (x : A) (rest : List A) (y : A) (k : ℕ) → k < length (x ∷ rest) → slice_index_or (x ∷ rest) k y ≡ y → (x ≡ y) ⊎ Contains rest y
contains_at x rest y zero within is = inl is
contains_at x rest y (suc k) within is = inr (k, omega (arith, within), is)

-- what a list contains is its first thing, or after it
pub contains_cases : {A : Type 0} (x : A) (rest : List A) (y : A) → Contains (x ∷ rest) y → (x ≡ y) ⊎ Contains rest y
contains_cases x rest y inside = contains_at x rest y inside.0 inside.1 inside.2

-- a list is split at a thing that it contains
split_at : {A : Type 0} (all : List A) (x : A) → Contains all x → (prefix : List A) × (back : List A) × (all ≡ prefix ++ (x ∷ back))
split_at [] x inside = absurd (contains_none x inside)
split_at (y ∷ rest) x inside = ⊎_elim
    (λ same. ([], rest, ap (λ z. z ∷ rest) same))
    (λ after. let parts = split_at rest x after in (y ∷ parts.0, parts.1, ap (λ zs. y ∷ zs) parts.2))
    (contains_cases y rest x inside)

-- what a list contains beside one thing is left when that is taken out
left_without : {A : Type 0} (prefix back : List A) (x y : A) → (x ≡ y → ⊥) → Contains (prefix ++ (x ∷ back)) y → Contains (prefix ++ back) y
left_without prefix back x y other inside = ⊎_elim
    (λ before. Contains-append_left prefix back y before)
    (λ after. ⊎_elim (λ same. absurd (other same)) (λ further. Contains-append_right prefix back y further) (contains_cases x back y after))
    (Contains-append_cases prefix (x ∷ back) y inside)

-- distinct things that are all contained in a list are at most as many as it
pub distinct_at_most : {A : Type 0} (things all : List A) → AreDistinct things → ((x : A) → Contains things x → Contains all x) → length things ≤ length all
unfolding AreDistinct
distinct_at_most [] all distinct within = zero-le
distinct_at_most {A} (x ∷ rest) all distinct within =
    let parts = split_at all x (within x (contains_first x rest)) in
    let fewer : length rest ≤ length (parts.0 ++ parts.1) =
    distinct_at_most rest (parts.0 ++ parts.1) distinct.1 (λ y inside. left_without parts.0 parts.1 x y
    (λ same. distinct.0 (subst (λ (z : A). Contains rest z) (sym same) inside))
    (subst (λ (zs : List A). Contains zs y) parts.2 (within y (contains_after x rest y inside)))) in
    omega (arith, ap length parts.2, length-append parts.0 parts.1, length-append parts.0 (x ∷ parts.1))
