-- Lists in a strict order: what they contain determines them.
use Rattle.std.proofs.Common.{◌≡◌, sym, refl, ap, ◌∙◌, subst, ⊎_elim, arith}
use Rattle.std.specs.Prelude.{◌<◌, ◌⊎◌, ◌↔◌, ℕ, List, [], ◌∷◌, Contains, AllPairs}
use Rattle.dwg_graph.proofs.ListLemmas.{pairs_first, pairs_after}
use Rattle.dwg_chains.proofs.MemberLemmas.{contains_none, contains_first, contains_after, contains_cases}

-- no two things stand each before the other
abbrev pub IsOneWay : {A : Type 0} → (A → A → Type 0) → Type 0
IsOneWay {A} R = (x y : A) → R x y → R y x → ⊥

-- by a number, and where those are equal by what follows
pub lower_then : (n m : ℕ) {P Q : Type 0} → (P → Q → ⊥) → ((n < m) ⊎ ((n ≡ m) × P)) → ((m < n) ⊎ ((m ≡ n) × Q)) → ⊥
lower_then n m {P} {Q} further one other = ⊎_elim
    (λ less. ⊎_elim (λ more. omega (arith, less, more)) (λ same. omega (arith, less, same.0)) other)
    (λ same. ⊎_elim (λ more. omega (arith, same.0, more)) (λ again. further same.1 again.1) other)
    one

-- the first things of lists in order that contain the same are one
same_first : {A : Type 0} (R : A → A → Type 0) (x y : A) (xs ys : List A) → IsOneWay R → AllPairs R (x ∷ xs) → AllPairs R (y ∷ ys) → Contains (y ∷ ys) x → Contains (x ∷ xs) y → x ≡ y
same_first R x y xs ys one_way ordered others here there = ⊎_elim
    (λ same. sym same)
    (λ after. ⊎_elim (λ same. same) (λ before. absurd (one_way x y (pairs_first R x xs y ordered before) (pairs_first R y ys x others after))) (contains_cases x xs y there))
    (contains_cases y ys x here)

-- what stands after the first thing of one such list stands after that of the other
same_after : {A : Type 0} (R : A → A → Type 0) (x y z : A) (xs ys : List A) → IsOneWay R → x ≡ y → AllPairs R (x ∷ xs) → Contains (y ∷ ys) z → Contains xs z → Contains ys z
same_after {A} R x y z xs ys one_way same ordered here inside = ⊎_elim
    (λ again.
    let before : R x x = subst (λ (w : A). R x w) (sym (same ∙ again)) (pairs_first R x xs z ordered inside) in
    absurd (one_way x x before before))
    (λ after. after)
    (contains_cases y ys z here)

-- so lists in order that contain the same are one
pub same_if_ordered : {A : Type 0} (R : A → A → Type 0) (xs ys : List A) → IsOneWay R → AllPairs R xs → AllPairs R ys → ((x : A) → Contains xs x ↔ Contains ys x) → xs ≡ ys
same_if_ordered R [] [] one_way ordered others same = refl
same_if_ordered R [] (y ∷ ys) one_way ordered others same = absurd (contains_none y ((same y).1 (contains_first y ys)))
same_if_ordered R (x ∷ xs) [] one_way ordered others same = absurd (contains_none x ((same x).0 (contains_first x xs)))
same_if_ordered {A} R (x ∷ xs) (y ∷ ys) one_way ordered others same =
    let first = same_first R x y xs ys one_way ordered others ((same x).0 (contains_first x xs)) ((same y).1 (contains_first y ys)) in
    let rest = same_if_ordered R xs ys one_way (pairs_after R x xs ordered) (pairs_after R y ys others) (λ z. (
      λ inside. same_after R x y z xs ys one_way first ordered ((same z).0 (contains_after x xs z inside)) inside,
      λ inside. same_after R y x z ys xs one_way (sym first) others ((same z).1 (contains_after y ys z inside)) inside,
    )) in
    ap (λ (z : A). z ∷ xs) first ∙ ap (λ (zs : List A). y ∷ zs) rest
