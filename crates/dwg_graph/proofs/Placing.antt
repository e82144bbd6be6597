-- A handle has one place among handles that ascend.
use Rattle.std.proofs.Common.{◌≡◌, refl, sym, ℕ, List, Option, Some, None}
use Rattle.dwg_graph.specs.Placed.{place_in}
use Rattle.dwg_graph.specs.Places.{Ascend, IsPlaceOf}
use Rattle.dwg_graph.proofs.PlacedObjects.{at_place, found_there}
use Rattle.dwg_chains.proofs.PlaceLaws.{contains_of_place}

-- the place of a handle is the first
pub place_known : (handles : List ℕ) (handle : ℕ) (place : Option ℕ) → Ascend handles → IsPlaceOf handles handle place → place ≡ place_in handles handle
place_known handles handle (Some place) ascend is = sym (found_there handles handle place ascend is)
place_known handles handle None ascend missing = nowhere (place_in handles handle) refl
  where
    nowhere : (place : Option ℕ) → place_in handles handle ≡ place → None ≡ place_in handles handle
    nowhere None is = sym is
    nowhere (Some place) is = absurd (missing (contains_of_place handles place handle (at_place handles handle place is)))
