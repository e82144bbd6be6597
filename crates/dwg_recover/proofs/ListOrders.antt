-- Lists in an order: of joined ones, and that their members determine those in a strict order.
use Rattle.std.proofs.Common.{◌≡◌, sym, refl, ap, ◌∙◌, subst, ⊎_elim, inl, inr, arith}
use Rattle.std.proofs.lemmas.List.Kept.{AllPairs-cons}
use Rattle.std.proofs.lemmas.List.Elements.{Contains-get_or}
use Rattle.std.specs.Prelude.{ℕ, suc, ◌↔◌, ◌⊎◌, List, [], ◌∷◌, ◌++◌, slice_index_or, AllPairs}
use Rattle.dwg_recover.specs.ListMembers.{IsOneOf}
use Rattle.dwg_recover.proofs.ListMembers.{one_or_element, of_joined}

-- the first thing is related to each after it
pub pairs_first : {A : Type 0} (R : A → A → Type 0) (x : A) (xs : List A) (y : A) → AllPairs R (x ∷ xs) → IsOneOf y xs → R x y
pairs_first R x xs y pairs is =
    let inside = (one_or_element y xs).0 is in subst (λ z. R x z) inside.2 (pairs 0 (suc inside.0) y (omega arith) (omega (arith, inside.1)))

-- the things after the first are related
pub pairs_after : {A : Type 0} (R : A → A → Type 0) (x : A) (xs : List A) → AllPairs R (x ∷ xs) → AllPairs R xs
pairs_after R x xs pairs i j d before within = pairs (suc i) (suc j) d (omega (arith, before)) (omega (arith, within))

-- no things are related
pub pairs_none : {A : Type 0} (R : A → A → Type 0) → AllPairs R []
pairs_none R i j d before within = absurd (omega (arith, within))

-- things are related with one before them, if that is related to each
pub pairs_more : {A : Type 0} (R : A → A → Type 0) (x : A) (xs : List A) → ((y : A) → IsOneOf y xs → R x y) → AllPairs R xs → AllPairs R (x ∷ xs)
pairs_more R x xs first pairs =
    AllPairs-cons R x xs (λ k d within. first (slice_index_or xs k d) ((one_or_element (slice_index_or xs k d) xs).1 (Contains-get_or xs k d within))) pairs

-- the things of two lists are related, if each of the first is related to each of the second
pub pairs_joined : {A : Type 0} (R : A → A → Type 0) (xs ys : List A) → AllPairs R xs → AllPairs R ys → ((x y : A) → IsOneOf x xs → IsOneOf y ys → R x y) → AllPairs R (xs ++ ys)
pairs_joined R [] ys pairs others across = others
pairs_joined R (x ∷ xs) ys pairs others across =
    pairs_more R x (xs ++ ys)
    (λ y inside. ⊎_elim (λ here. pairs_first R x xs y pairs here) (λ there. across x y (inl refl) there) (of_joined y xs ys inside))
    (pairs_joined R xs ys (pairs_after R x xs pairs) others (λ y z inside there. across y z (inr inside) there))

-- no two things stand each before the other
abbrev pub IsOneWay : {A : Type 0} → (A → A → Type 0) → Type 0
IsOneWay {A} R = (x y : A) → R x y → R y x → ⊥

-- the first things of lists in order that have the same members are one
same_first : {A : Type 0} (R : A → A → Type 0) (x y : A) (xs ys : List A) → IsOneWay R → AllPairs R (x ∷ xs) → AllPairs R (y ∷ ys) → IsOneOf x (y ∷ ys) → IsOneOf y (x ∷ xs) → x ≡ y
same_first R x y xs ys one_way ordered others (inl same) there = same
same_first R x y xs ys one_way ordered others (inr after) (inl same) = sym same
same_first R x y xs ys one_way ordered others (inr after) (inr before) = absurd (one_way x y (pairs_first R x xs y ordered before) (pairs_first R y ys x others after))

-- what stands after the first thing of one such list stands after that of the other
same_after : {A : Type 0} (R : A → A → Type 0) (x y z : A) (xs ys : List A) → IsOneWay R → x ≡ y → AllPairs R (x ∷ xs) → IsOneOf z (y ∷ ys) → IsOneOf z xs → IsOneOf z ys
same_after {A} R x y z xs ys one_way same ordered (inl again) inside =
    let before : R x x = subst (λ (w : A). R x w) (again ∙ sym same) (pairs_first R x xs z ordered inside) in
    absurd (one_way x x before before)
same_after R x y z xs ys one_way same ordered (inr after) inside = after

-- so lists in order that have the same members are one
pub same_if_ordered : {A : Type 0} (R : A → A → Type 0) (xs ys : List A) → IsOneWay R → AllPairs R xs → AllPairs R ys → ((x : A) → IsOneOf x xs ↔ IsOneOf x ys) → xs ≡ ys
same_if_ordered R [] [] one_way ordered others same = refl
same_if_ordered R [] (y ∷ ys) one_way ordered others same = absurd ((same y).1 (inl refl))
same_if_ordered R (x ∷ xs) [] one_way ordered others same = absurd ((same x).0 (inl refl))
same_if_ordered {A} R (x ∷ xs) (y ∷ ys) one_way ordered others same =
    let first = same_first R x y xs ys one_way ordered others ((same x).0 (inl refl)) ((same y).1 (inl refl)) in
    let rest = same_if_ordered R xs ys one_way (pairs_after R x xs ordered) (pairs_after R y ys others) (λ z. (
      λ inside. same_after R x y z xs ys one_way first ordered ((same z).0 (inr inside)) inside,
      λ inside. same_after R y x z ys xs one_way (sym first) others ((same z).1 (inr inside)) inside,
    )) in
    ap (λ (z : A). z ∷ xs) first ∙ ap (λ (zs : List A). y ∷ zs) rest
