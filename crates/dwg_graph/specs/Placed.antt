-- The references of objects as tables of places. A rule of this project.
use Rattle.std.specs.Prelude.{◌==◌, ℕ, suc, Bool, List, [], ◌∷◌, map, Option, Some, None, if◌then◌else◌}
use Rattle.std.specs.List.{slice_get}
use Rattle.std.specs.Option.{option_map, option_and_then}
use Rattle.dwg_graph.specs.declared.owner.SpaceHandles.{SpaceHandles}
use Rattle.dwg_graph.specs.Graph.{is_root, is_member, EndHandles, ends_of}
use Rattle.dwg_graph.specs.Owners.{owner_of, next_of}
use Rattle.dwg_graph.specs.Places.{handles_of}
use Rattle.dwg_object.specs.Objects.{ObjectValue}
use Rattle.dwg_chains.specs.declared.tables.ChainEnds.{ChainEnds}

-- the place of a handle among handles
unfoldable pub place_in : List ℕ → ℕ → Option ℕ
place_in [] handle = None
place_in (first ∷ more) handle = if first == handle then Some 0 else option_map suc (place_in more handle)

-- where the owner of an object stands
abbrev pub owner_place : List ObjectValue → Option SpaceHandles → ObjectValue → Option ℕ
owner_place objects known x = place_in (handles_of objects) (owner_of known x)

-- where what follows an object in a block stands
abbrev pub next_place : List ObjectValue → ObjectValue → Option ℕ
next_place objects x = place_in (handles_of objects) (next_of x)

-- where the block stands of which an object is a member: that of its owner, which is a Typed BLOCK HEADER
abbrev pub home_at : List ObjectValue → Option SpaceHandles → ObjectValue → ℕ → Option ℕ
home_at objects known x place = option_and_then (λ owner. if is_member known owner x then Some place else None) (slice_get objects place)

abbrev pub home_place : List ObjectValue → Option SpaceHandles → ObjectValue → Option ℕ
home_place objects known x = option_and_then (home_at objects known x) (owner_place objects known x)

-- where the ends of a block stand among handles
abbrev pub end_places : List ℕ → EndHandles → ChainEnds
end_places handles ends = record { first = place_in handles ends.first; last = place_in handles ends.last }

-- the tables of all objects
abbrev pub owner_table : List ObjectValue → Option SpaceHandles → List (Option ℕ)
owner_table objects known = map (owner_place objects known) objects

abbrev pub next_table : List ObjectValue → List (Option ℕ)
next_table objects = map (next_place objects) objects

abbrev pub root_table : List ObjectValue → Option SpaceHandles → List Bool
root_table objects known = map (is_root known) objects

abbrev pub home_table : List ObjectValue → Option SpaceHandles → List (Option ℕ)
home_table objects known = map (home_place objects known) objects

abbrev pub end_table : List ObjectValue → List (Option ChainEnds)
end_table objects = map (λ x. option_map (end_places (handles_of objects)) (ends_of x)) objects
