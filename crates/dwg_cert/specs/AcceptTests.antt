-- The tests by which a certificate is checked, object by object. A rule of this project.
use Rattle.std.specs.Prelude.{◌==◌, ◌||◌, ◌&&◌, ◌+◌, ◌-◌, ◌↔◌, ℕ, Bool, true, false, List, [], ◌∷◌, length, not, nat_lt, IsTrue, if◌then◌else◌}
use Rattle.std.specs.List.{list_all}
use Rattle.std.specs.Option.{option_map_or}
use Rattle.dwg_cert.specs.Accepts.{Accepts, rank_at, place_at, members_of}
use Rattle.dwg_cert.specs.declared.entry.Entry.{Entry}
use Rattle.dwg_graph.specs.Graph.{object_at, is_typed, is_raw, is_header, is_root, is_member, EndHandles, ends_of}
use Rattle.dwg_graph.specs.Owners.{block_controls, spaces, owner_of, next_of}
use Rattle.dwg_graph.specs.Places.{Ascend, handles_of}
use Rattle.dwg_graph.specs.Slots.{slots}
use Rattle.dwg_graph.specs.Tests.{is_met, is_exempt, is_claimed}
use Rattle.dwg_kinds.specs.declared.field.Field.TheVariants as fields
use Rattle.dwg_object.specs.Objects.{ObjectValue, handle_of}
use Rattle.dwg_chains.specs.Tables.{is_at}

-- the handles of entries are those of objects
unfoldable pub are_handles : List Entry → List ObjectValue → Bool
are_handles [] [] = true
are_handles (entry ∷ entries) (x ∷ xs) = (entry.handle == handle_of x) && are_handles entries xs
are_handles entries objects = false

-- a rank is right of an object: 0 of a root, and any other of what is Typed or Plain and has an owner of the rank before
unfoldable pub is_rank : List ObjectValue → List Entry → ObjectValue → ℕ → Bool
is_rank objects cert x rank = if rank == 0 then is_root (spaces objects) x else not (is_raw x) && is_at (rank_at cert (owner_of (spaces objects) x)) (rank - 1)

-- an object has a rank that is right, or is left without by its form
unfoldable pub is_ranked : List ObjectValue → List Entry → ObjectValue → Bool
is_ranked objects cert x = option_map_or (is_rank objects cert x) (rank_at cert (handle_of x)) (not (is_typed x))

-- a handle is that of a member of a block that has such a place
unfoldable pub is_member_at : List ObjectValue → List Entry → ObjectValue → ℕ → ℕ → Bool
is_member_at objects cert block handle place = option_map_or (is_member (spaces objects) block) (object_at objects handle) false && is_at (place_at cert handle) place

-- a place is right of a member of a block: what follows it is the member of the place after, where that is below the count of members, and else it is the last
unfoldable pub is_place : List ObjectValue → List Entry → ObjectValue → EndHandles → ObjectValue → ℕ → Bool
is_place objects cert block ends x place =
    if nat_lt (place + 1) (length (members_of objects block)) then is_member_at objects cert block (next_of x) (place + 1)
    else (place + 1 == length (members_of objects block)) && (handle_of x == ends.last)

-- a member of a block has a place that is right
unfoldable pub is_placed : List ObjectValue → List Entry → ObjectValue → ObjectValue → Bool
is_placed objects cert x block = option_map_or (λ ends. option_map_or (is_place objects cert block ends x) (place_at cert (handle_of x)) false) (ends_of block) false

-- what a block asks of an object that it owns
abbrev pub is_placed_in : List ObjectValue → List Entry → ObjectValue → ObjectValue → Bool
is_placed_in objects cert x block = not (is_member (spaces objects) block x) || is_placed objects cert x block

-- an object is no member of a block, or has a place that is right
unfoldable pub is_in_place : List ObjectValue → List Entry → ObjectValue → Bool
is_in_place objects cert x = option_map_or (is_placed_in objects cert x) (object_at objects (owner_of (spaces objects) x)) true

-- a block begins with a member of place 0, or has neither ends nor members
unfoldable pub is_begun : List ObjectValue → List Entry → ObjectValue → Bool
is_begun objects cert block = option_map_or (λ (ends : EndHandles). is_member_at objects cert block ends.first 0) (ends_of block) (length (members_of objects block) == 0)

-- the owner and each slot of an object meet their needs
unfoldable pub is_resolved : List ObjectValue → ObjectValue → Bool
is_resolved objects x = is_met objects x (record { field = fields.Owner; position = 0; target = owner_of (spaces objects) x }) && list_all (is_met objects x) (slots x)

-- the references of an object hold together: those of a Typed one, and of a block beside that its members begin
unfoldable pub holds_together : List ObjectValue → List Entry → ObjectValue → Bool
holds_together objects cert x =
    not (is_typed x) || (is_resolved objects x && ((is_exempt objects (spaces objects) x || is_claimed objects (spaces objects) x) && (not (is_header x) || is_begun objects cert x)))

-- what a certificate says of an object is right, and its references hold together
unfoldable pub is_right : List ObjectValue → List Entry → ObjectValue → Bool
is_right objects cert x = is_ranked objects cert x && (is_in_place objects cert x && holds_together objects cert x)

-- a certificate is accepted
unfoldable pub is_accepted : List ObjectValue → List Entry → Bool
is_accepted objects cert = are_handles cert objects && ((length (block_controls objects) == 1) && list_all (is_right objects cert) objects)

-- the tests say whether a certificate is one of these objects
abbrev pub AcceptanceIsDecided : Type 0
AcceptanceIsDecided = (objects : List ObjectValue) (cert : List Entry) → Ascend (handles_of objects) → IsTrue (is_accepted objects cert) ↔ Accepts objects cert
