-- Owner paths and chains over tables of places say what those over objects say.
use Rattle.std.proofs.Common.{◌≡◌, refl, sym, ap, ◌∙◌, subst, ℕ, Bool, false, List, length, map, Option, Some, None}
use Rattle.std.specs.Prelude.{◌<◌, ◌↔◌, is_some, unwrap_or, IsTrue, if◌then◌else◌}
use Rattle.std.specs.List.{slice_get}
use Rattle.std.specs.Option.{option_map, option_map_or, option_and_then}
use Rattle.std.proofs.lemmas.Bool.Decides.{same_from_decides}
use Rattle.std.proofs.lemmas.List.{length-map}
use Rattle.std.proofs.lemmas.Option.{cond_some, slice_get-map, slice_get_within}
use Rattle.dwg_graph.specs.declared.owner.SpaceHandles.{SpaceHandles}
use Rattle.dwg_graph.specs.Graph.{object_at, there, is_root, is_member, owner_step, root_at}
use Rattle.dwg_graph.specs.Owners.{owner_of}
use Rattle.dwg_graph.specs.Placed.{place_in, owner_table, root_table, home_table, home_place, owner_place, home_at}
use Rattle.dwg_graph.specs.Places.{Ascend, handles_of}
use Rattle.dwg_graph.proofs.ObjectPaths.{step_to}
use Rattle.dwg_graph.proofs.PlacedObjects.{object_placed, at_place, object_there}
use Rattle.dwg_graph.proofs.Tests.{there_inside}
use Rattle.dwg_object.specs.Objects.{ObjectValue, handle_of}
use Rattle.dwg_chains.specs.Ways.{IsClosed}
use Rattle.dwg_chains.proofs.PathLaws.{path_decided}
use Rattle.dwg_chains.specs.Paths.{HasPath}
use Rattle.dwg_chains.specs.ThingsAtPlaces.{IsSeen, TestsAgree}
use Rattle.dwg_chains.proofs.PlaceLaws.{path_seen, contains_of_place}
use Rattle.dwg_chains.proofs.RankLemmas.{path_of_rank, rank_of_path}
use Rattle.dwg_chains.proofs.WayLemmas.{option_map_found, option_then_found}
use Rattle.dwg_chains.specs.Tables.{leads, marked, RankIs, AreWithin}
use Rattle.dwg_chains.specs.Ways.{has_path}

-- the object that has the handle at a place
pub object_of_place : (objects : List ObjectValue) (i handle : ℕ) → slice_get (handles_of objects) i ≡ Some handle → (x : ObjectValue) × (slice_get objects i ≡ Some x) × (handle_of x ≡ handle)
object_of_place objects i handle at =
    let found = option_map_found handle_of (slice_get objects i) handle (sym (slice_get-map handle_of objects i) ∙ at) in
    (found.0, found.1, sym found.2)

-- what a table of all objects says at a place
pub in_table : (objects : List ObjectValue) (f : ObjectValue → Option ℕ) (i : ℕ) (x : ObjectValue) → slice_get objects i ≡ Some x → leads (map f objects) i ≡ f x
in_table objects f i x at = ap (option_and_then (λ to. to)) (slice_get-map f objects i ∙ ap (option_map f) at)

-- a handle of an object is there, and so is its place
there_at : (objects : List ObjectValue) (handle place : ℕ) → place_in (handles_of objects) handle ≡ Some place → there objects handle ≡ Some handle
unfolding there
there_at objects handle place found =
    let stands = object_of_place objects place handle (at_place (handles_of objects) handle place found) in
    let known : object_at objects handle ≡ Some stands.0 = sym (object_placed objects handle) ∙ ap (option_and_then (slice_get objects)) found ∙ stands.1 in
    ap (λ o. if is_some o then Some handle else None) known

-- a handle of no object isn't
not_there : (objects : List ObjectValue) (handle : ℕ) → place_in (handles_of objects) handle ≡ None → there objects handle ≡ None
unfolding there
not_there objects handle missing =
    let none : object_at objects handle ≡ None = sym (object_placed objects handle) ∙ ap (option_and_then (slice_get objects)) missing in
    ap (λ o. if is_some o then Some handle else None) none

-- the table of the places where the objects of these handles stand
abbrev pub table_to : List ObjectValue → (ObjectValue → ℕ) → List (Option ℕ)
table_to objects target = map (λ x. place_in (handles_of objects) (target x)) objects

-- the object that has the handle at a place is found by that handle
object_found_of : (objects : List ObjectValue) (i handle : ℕ) → Ascend (handles_of objects) → slice_get (handles_of objects) i ≡ Some handle
    → (x : ObjectValue) × (slice_get objects i ≡ Some x) × (object_at objects handle ≡ Some x)
object_found_of objects i handle ascend at =
    let stands = object_of_place objects i handle at in
    (stands.0, stands.1, subst (λ (n : ℕ). object_at objects n ≡ Some stands.0) stands.2 (object_there objects stands.0 i ascend stands.1))

-- the table says where the steps lead
pub steps_seen : (objects : List ObjectValue) (target : ObjectValue → ℕ) → Ascend (handles_of objects) → IsSeen (handles_of objects) (leads (table_to objects target)) (step_to objects target)
steps_seen objects target ascend = record {
  goes_on = λ i h j at leads_on.
      let stands = object_found_of objects i h ascend at in
      let place = sym (in_table objects (λ y. place_in (handles_of objects) (target y)) i stands.0 stands.1) ∙ leads_on in (
        target stands.0,
        at_place (handles_of objects) (target stands.0) j place,
        ap (option_and_then (λ y. there objects (target y))) stands.2 ∙ there_at objects (target stands.0) j place,
      );
  stops = λ i h at leads_off.
      let stands = object_found_of objects i h ascend at in
      let place = sym (in_table objects (λ y. place_in (handles_of objects) (target y)) i stands.0 stands.1) ∙ leads_off in
      ap (option_and_then (λ y. there objects (target y))) stands.2 ∙ not_there objects (target stands.0) place;
}

-- steps lead to handles of objects alone
pub steps_closed : (objects : List ObjectValue) (target : ObjectValue → ℕ) → IsClosed (handles_of objects) (step_to objects target)
steps_closed objects target h next inside leads_on =
    let step = option_then_found (λ x. there objects (target x)) (object_at objects h) next leads_on in there_inside objects (target step.0) next step.2

-- a test of objects says at places what it says at their handles
pub tests_agree : (objects : List ObjectValue) (test : ObjectValue → Bool) → Ascend (handles_of objects)
    → TestsAgree (handles_of objects) (marked (map test objects)) (λ handle. option_map_or test (object_at objects handle) false)
tests_agree objects test ascend i h at =
    let stands = object_found_of objects i h ascend at in
    ap (λ o. unwrap_or o false) (slice_get-map test objects i ∙ ap (option_map test) stands.1) ∙ sym (ap (λ o. option_map_or test o false) stands.2)

-- a rank reports that a path leads from a place, and that it has none, that none does
rank_decides : (up : List (Option ℕ)) (goals : List Bool) (i : ℕ) (rank : Option ℕ) → RankIs up goals i rank → IsTrue (is_some rank) ↔ HasPath (leads up) (marked goals) i
rank_decides up goals i None unranked = (λ is. absurd (cc is), λ has. let ranked = rank_of_path (leads up) (marked goals) i has in absurd (unranked ranked.0 ranked.1))
rank_decides up goals i (Some r) ranked = (λ is. path_of_rank (leads up) (marked goals) i r ranked, λ has. refl)

-- the rank of an object's place reports whether a path leads from it
pub path_placed : (objects : List ObjectValue) (known : Option SpaceHandles) (i : ℕ) (x : ObjectValue) (rank : Option ℕ) → Ascend (handles_of objects) → slice_get objects i ≡ Some x
    → RankIs (owner_table objects known) (root_table objects known) i rank
    → is_some rank ≡ has_path (handles_of objects) (owner_step objects known) (root_at objects known) (handle_of x)
unfolding owner_step root_at
path_placed objects known i x rank ascend at is =
    let inside = slice_get-map handle_of objects i ∙ ap (option_map handle_of) at in
    let seen = path_seen (handles_of objects) (leads (owner_table objects known)) (owner_step objects known) (marked (root_table objects known)) (root_at objects known)
    (steps_seen objects (owner_of known) ascend) (tests_agree objects (is_root known) ascend) i (handle_of x) inside in
    let decided = path_decided (handles_of objects) (owner_step objects known) (root_at objects known) (handle_of x) (steps_closed objects (owner_of known))
    (contains_of_place (handles_of objects) i (handle_of x) inside) in
    let ranked = rank_decides (owner_table objects known) (root_table objects known) i rank is in
    same_from_decides (is_some rank) (has_path (handles_of objects) (owner_step objects known) (root_at objects known) (handle_of x))
    (λ has. seen.0 (ranked.0 has), λ has. ranked.1 (seen.1 has)) decided

-- a place that was found is one of as many as there are handles
pub found_within : (handles : List ℕ) (handle place : ℕ) → place_in handles handle ≡ Some place → place < length handles
found_within handles handle place found = slice_get_within handles place handle (at_place handles handle place found)

-- each place that a table of all objects names is one of as many as there are objects
pub table_within : (objects : List ObjectValue) (f : ObjectValue → Option ℕ) → ((x : ObjectValue) (to : ℕ) → f x ≡ Some to → to < length objects) → AreWithin (length objects) (map f objects)
table_within objects f within place to leads_on =
    let row = option_then_found (λ there. there) (slice_get (map f objects) place) to leads_on in
    let x = option_map_found f (slice_get objects place) row.0 (sym (slice_get-map f objects place) ∙ row.1) in
    within x.0 to (sym x.2 ∙ row.2)

-- so are the owners' places and the homes
pub owners_within : (objects : List ObjectValue) (known : Option SpaceHandles) → AreWithin (length objects) (owner_table objects known)
owners_within objects known = table_within objects (owner_place objects known)
    (λ x to found. subst (λ n. to < n) (length-map objects handle_of) (found_within (handles_of objects) (owner_of known x) to found))

pub homes_within : (objects : List ObjectValue) (known : Option SpaceHandles) → AreWithin (length objects) (home_table objects known)
homes_within objects known = table_within objects (home_place objects known) (λ x to found.
    let place = option_then_found (home_at objects known x) (owner_place objects known x) to found in
    let owner = option_then_found (λ y. if is_member known y x then Some place.0 else None) (slice_get objects place.0) to place.2 in
    subst (λ n. n < length objects) (cond_some (is_member known owner.0 x) place.0 to owner.2).1 (slice_get_within objects place.0 owner.0 owner.1))

-- and so they are in the tables in hand
pub owners_fit : (objects : List ObjectValue) (known : Option SpaceHandles) (owners : List (Option ℕ)) → owners ≡ owner_table objects known → AreWithin (length owners) owners
owners_fit objects known owners same =
    subst (λ (t : List (Option ℕ)). AreWithin (length t) t) (sym same)
    (subst (λ n. AreWithin n (owner_table objects known)) (sym (length-map objects (owner_place objects known))) (owners_within objects known))

pub homes_fit : (objects : List ObjectValue) (known : Option SpaceHandles) (homes : List (Option ℕ)) → homes ≡ home_table objects known → AreWithin (length homes) homes
homes_fit objects known homes same =
    subst (λ (t : List (Option ℕ)). AreWithin (length t) t) (sym same)
    (subst (λ n. AreWithin n (home_table objects known)) (sym (length-map objects (home_place objects known))) (homes_within objects known))
