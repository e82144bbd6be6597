-- Laws of paths among finitely many things: as many steps as there are things find a path, if there is one.
use Rattle.std.proofs.Common.{◌≡◌, refl, subst, ⊎_elim, arith, ap}
use Rattle.std.specs.Prelude.{ℕ, ◌<◌, ◌≤◌, ◌↔◌, Bool, List, [], ◌∷◌, length, Option, Some, None, is_some, IsTrue, Contains}
use Rattle.dwg_chains.specs.Paths.{HasPath, HasRank}
use Rattle.dwg_chains.specs.Ways.{way, has_path}
use Rattle.dwg_chains.proofs.MemberLemmas.{contains_none, contains_cases, distinct_at_most}
use Rattle.dwg_chains.proofs.RankLemmas.{IsStraight, straight_of_rank, path_of_straight, distinct_along, rank_of_path}
use Rattle.dwg_chains.proofs.WayLemmas.{straight_is_found, found_is_straight}
use Rattle.dwg_chains.specs.Ways.{IsClosed}

-- a straight way from a thing of a closed list stays in it
stays_along : {A : Type 0} (all : List A) (step : A → Option A) (goal : A → Bool) → IsClosed all step → (x : A) (rest : List A) → Contains all x → IsStraight step goal x rest → (y : A) → Contains (x ∷ rest) y → Contains all y
stays_along {A} all step goal closed x [] inside straight y along = ⊎_elim
    (λ same. subst (λ (z : A). Contains all z) same inside)
    (λ after. absurd (contains_none y after))
    (contains_cases x [] y along)
stays_along {A} all step goal closed x (z ∷ rest) inside straight y along = ⊎_elim
    (λ same. subst (λ (w : A). Contains all w) same inside)
    (λ after. stays_along all step goal closed z rest (closed x z inside straight.1) straight.2 y after)
    (contains_cases x (z ∷ rest) y along)

-- a straight way from a thing of a closed list has fewer steps than the list has things
pub straight_is_short : {A : Type 0} (all : List A) (step : A → Option A) (goal : A → Bool) → IsClosed all step → (x : A) (rest : List A) → Contains all x → IsStraight step goal x rest → length (x ∷ rest) ≤ length all
straight_is_short all step goal closed x rest inside straight =
    distinct_at_most (x ∷ rest) all (distinct_along step goal x rest straight) (stays_along all step goal closed x rest inside straight)

-- a rank among the things of a closed list is less than their count
pub rank_is_small : {A : Type 0} (all : List A) (step : A → Option A) (goal : A → Bool) → IsClosed all step → (x : A) (rank : ℕ) → Contains all x → HasRank step goal x rank → rank < length all
rank_is_small all step goal closed x rank inside has =
    let straight = straight_of_rank step goal x rank has in
    omega (arith, straight_is_short all step goal closed x straight.0 inside straight.1, straight.2)

-- what is something, is it
some_of : {A : Type 0} (found : Option A) → IsTrue (is_some found) → (x : A) × (found ≡ Some x)
some_of None is = absurd (cc is)
some_of (Some x) is = (x, refl)

-- as many steps as there are things find a path exactly where there is one
pub path_decided : {A : Type 0} (all : List A) (step : A → Option A) (goal : A → Bool) (x : A) → IsClosed all step → Contains all x → IsTrue (has_path all step goal x) ↔ HasPath step goal x
unfolding has_path
path_decided all step goal x closed inside = (
  λ is. let found = some_of (way step goal (length all) x) is in
      let straight = found_is_straight step goal (length all) x found.0 found.1 in
      (x ∷ straight.0, path_of_straight step goal x straight.0 straight.2),
  λ has. let ranked = rank_of_path step goal x has in
      let straight = straight_of_rank step goal x ranked.0 ranked.1 in
      let short : length (x ∷ straight.0) ≤ length all = straight_is_short all step goal closed x straight.0 inside straight.1 in
      ap is_some (straight_is_found step goal (length all) x straight.0 straight.1 (omega (arith, short))),
)
