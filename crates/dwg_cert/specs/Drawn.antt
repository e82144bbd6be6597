-- The certificate that is drawn up of objects, whether their references hold together or not: ranks, and places by how many steps are left to the last of a block. A rule of this project.
use Rattle.std.specs.Prelude.{◌≡◌, ◌-◌, ◌==◌, ℕ, Bool, false, List, length, map, Option, Some, None, nat_lt, if◌then◌else◌}
use Rattle.std.specs.Option.{option_and_then, option_map, option_map_or}
use Rattle.dwg_cert.specs.Certified.{rank_of}
use Rattle.dwg_cert.specs.declared.entry.Entry.{Entry}
use Rattle.dwg_graph.specs.Graph.{object_at, there, is_member, EndHandles, ends_of}
use Rattle.dwg_graph.specs.Owners.{spaces, owner_of, next_of}
use Rattle.dwg_graph.specs.Placed.{owner_table}
use Rattle.dwg_object.specs.Objects.{ObjectValue, handle_of}
use Rattle.dwg_chains.specs.Ways.{way}

-- how many steps lead from a handle to that of an object that passes a test, where each object leads to a handle
unfoldable pub steps_to : List ObjectValue → (ObjectValue → ℕ) → (ObjectValue → Bool) → ℕ → Option ℕ
steps_to objects target test handle =
    option_map (λ path. length path - 1)
    (way (λ one. option_and_then (λ x. there objects (target x)) (object_at objects one)) (λ one. option_map_or test (object_at objects one) false) (length objects) handle)

-- the ends of the block of which an object is a member
unfoldable pub home_ends : List ObjectValue → ObjectValue → Option EndHandles
home_ends objects x = option_and_then (λ block. if is_member (spaces objects) block x then ends_of block else None) (object_at objects (owner_of (spaces objects) x))

-- an object is the last of its block
unfoldable pub is_last : List ObjectValue → ObjectValue → Bool
is_last objects x = option_map_or (λ (ends : EndHandles). handle_of x == ends.last) (home_ends objects x) false

-- how many steps are left from a handle to the last of a block
unfoldable pub steps_left : List ObjectValue → ℕ → Option ℕ
steps_left objects handle = steps_to objects next_of (is_last objects) handle

-- and from an object
unfoldable pub left_of : List ObjectValue → ObjectValue → Option ℕ
left_of objects x = steps_left objects (handle_of x)

-- how many fewer steps are left from one than from the other
abbrev pub steps_between : Option ℕ → Option ℕ → Option ℕ
steps_between from to = option_and_then (λ all. option_and_then (λ left. if nat_lt all left then None else Some (all - left)) to) from

-- the place of an object in the chain of its block: how many fewer steps are left from it than from the first
unfoldable pub drawn_place : List ObjectValue → ObjectValue → Option ℕ
drawn_place objects x = option_and_then (λ (ends : EndHandles). steps_between (steps_left objects ends.first) (left_of objects x)) (home_ends objects x)

-- the entry that is drawn up of an object, and those of all
abbrev pub drawn_entry : List ObjectValue → ObjectValue → Entry
drawn_entry objects x = record { handle = handle_of x; rank = rank_of objects x; chain = drawn_place objects x }

unfoldable pub drawn : List ObjectValue → List Entry
drawn objects = map (drawn_entry objects) objects

-- where the owners of all objects stand, their ranks, and how many steps are left from each
pub record AreTables (objects : List ObjectValue) (owners ranks left : List (Option ℕ)) : Type 0 where
  pub owned : owners ≡ owner_table objects (spaces objects)
  pub ranked : ranks ≡ map (rank_of objects) objects
  pub counted : left ≡ map (left_of objects) objects
