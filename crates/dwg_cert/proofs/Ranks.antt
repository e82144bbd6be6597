-- The rank of an object is the count of the steps from owner to owner up to a root.
use Rattle.std.proofs.Common.{◌≡◌, ap, ◌∙◌, subst, arith}
use Rattle.std.proofs.lemmas.List.{length-map}
use Rattle.std.specs.Prelude.{ℕ, ◌-◌, ◌↔◌, Bool, List, ◌∷◌, length, Option, Some, Contains}
use Rattle.std.specs.Option.{option_map}
use Rattle.dwg_cert.specs.Certified.{rank_of}
use Rattle.dwg_graph.specs.Graph.{owner_step, root_at}
use Rattle.dwg_graph.specs.Owners.{spaces}
use Rattle.dwg_graph.specs.Places.{handles_of}
use Rattle.dwg_graph.proofs.ListLemmas.{contains_map}
use Rattle.dwg_graph.proofs.Tests.{owners_closed}
use Rattle.dwg_object.specs.Objects.{ObjectValue, handle_of}
use Rattle.dwg_chains.specs.Paths.{HasRank}
use Rattle.dwg_chains.specs.Ways.{way, IsClosed}
use Rattle.dwg_chains.proofs.PathLaws.{straight_is_short}
use Rattle.dwg_chains.proofs.RankLemmas.{straight_of_rank, rank_of_straight}
use Rattle.dwg_chains.proofs.WayLemmas.{straight_is_found, found_is_straight, option_map_found}

-- as many steps as the way has that is found in so many as there are things lead to a goal
pub rank_of_way : {A : Type 0} (step : A → Option A) (goal : A → Bool) (count : ℕ) (x : A) (rank : ℕ) → option_map (λ (path : List A). length path - 1) (way step goal count x) ≡ Some rank → HasRank step goal x rank
rank_of_way {A} step goal count x rank is =
    let path = option_map_found (λ (those : List A). length those - 1) (way step goal count x) rank is in
    let straight = found_is_straight step goal count x path.0 path.1 in
    let steps : length straight.0 ≡ rank = omega (arith, path.2, ap length straight.1) in
    subst (λ (n : ℕ). HasRank step goal x n) steps (rank_of_straight step goal x straight.0 straight.2)

-- where things lead only to each other, a way with as many steps as lead to a goal is found
pub way_of_rank : {A : Type 0} (all : List A) (step : A → Option A) (goal : A → Bool) (count : ℕ) (x : A) (rank : ℕ) → IsClosed all step → Contains all x → length all ≡ count → HasRank step goal x rank
    → option_map (λ (path : List A). length path - 1) (way step goal count x) ≡ Some rank
way_of_rank {A} all step goal count x rank closed inside many has =
    let straight = straight_of_rank step goal x rank has in
    let short = straight_is_short all step goal closed x straight.0 inside straight.1 in
    let found = straight_is_found step goal count x straight.0 straight.1 (omega (arith, short, many)) in
    let steps : length (x ∷ straight.0) - 1 ≡ rank = omega (arith, straight.2) in
    ap (option_map (λ (those : List A). length those - 1)) found ∙ ap Some steps

-- the rank of an object is the count of the steps from owner to owner up to a root
pub ranks_are_steps : (objects : List ObjectValue) (x : ObjectValue) (rank : ℕ) → Contains objects x → (rank_of objects x ≡ Some rank) ↔ HasRank (owner_step objects (spaces objects)) (root_at objects (spaces objects)) (handle_of x) rank
unfolding rank_of
ranks_are_steps objects x rank inside = (
  λ is. rank_of_way (owner_step objects (spaces objects)) (root_at objects (spaces objects)) (length objects) (handle_of x) rank is,
  λ has. way_of_rank (handles_of objects) (owner_step objects (spaces objects)) (root_at objects (spaces objects)) (length objects) (handle_of x) rank
      (owners_closed objects (spaces objects)) (contains_map handle_of objects x inside) (length-map objects handle_of) has,
)
