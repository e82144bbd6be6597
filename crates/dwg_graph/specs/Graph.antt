-- What the references of objects make of them: roots, claims, members of blocks, owner paths and chains. An object of a drawing has a handle of its own, so that paths and chains are lists of handles. A rule of this project.
use Rattle.std.specs.Prelude.{◌≡◌, ◌==◌, ◌||◌, ◌&&◌, ℕ, Bool, true, false, List, [], ◌∷◌, map, find, not, Option, Some, None, is_some, if◌then◌else◌}
use Rattle.std.specs.List.{list_any, filter, flat_map}
use Rattle.std.specs.Option.{option_and_then, option_map_or}
use Rattle.dwg_graph.specs.declared.owner.SpaceHandles.{SpaceHandles}
use Rattle.dwg_graph.specs.declared.slot.Slot.{Slot}
use Rattle.dwg_graph.specs.Owners.{spaces, owner_of, next_of}
use Rattle.dwg_graph.specs.Slots.{slots}
use Rattle.dwg_kinds.specs.declared.field.Field.{Field}
use Rattle.dwg_kinds.specs.declared.field.Field.TheVariants as fields
use Rattle.dwg_kinds.specs.declared.kind.Kind.{Kind}
use Rattle.dwg_kinds.specs.declared.kind.Kind.TheVariants as kinds
use Rattle.dwg_kinds.specs.Kinds.{is_entity_kind, same_kind}
use Rattle.dwg_object.specs.declared.body.Body.TheVariants as bodies
use Rattle.dwg_object.specs.declared.body.Body.{Body}
use Rattle.dwg_object.specs.Objects.{ObjectValue, TypedValue, PlainValue, RawValue, handle_of, number_of, kind_of}
use Rattle.dwg_chains.specs.Paths.{HasPath, HasChain}
use Rattle.dwg_tables.specs.declared.block_header.Ends as declared

-- an object is Typed
abbrev pub is_typed : ObjectValue → Bool
is_typed (TypedValue number handle common body) = true
is_typed (PlainValue number handle common rest refs) = false
is_typed (RawValue number handle bytes) = false

-- an object is Raw
abbrev pub is_raw : ObjectValue → Bool
is_raw (TypedValue number handle common body) = false
is_raw (PlainValue number handle common rest refs) = false
is_raw (RawValue number handle bytes) = true

-- an object is a Typed BLOCK HEADER
abbrev pub is_header_body : Body → Bool
is_header_body (bodies.BlockHeader body) = true
is_header_body other = false

abbrev pub is_header : ObjectValue → Bool
is_header (TypedValue number handle common body) = is_header_body body
is_header (PlainValue number handle common rest refs) = false
is_header (RawValue number handle bytes) = false

-- the object of a handle
unfoldable pub object_at : List ObjectValue → ℕ → Option ObjectValue
object_at objects handle = find (λ x. handle_of x == handle) objects

-- a handle, where an object has it
unfoldable pub there : List ObjectValue → ℕ → Option ℕ
there objects handle = if is_some (object_at objects handle) then Some handle else None

-- the type numbers of the objects that stand at the top of a drawing
abbrev pub TOP_NUMBERS : List ℕ
TOP_NUMBERS = 48 ∷ 50 ∷ 52 ∷ 56 ∷ 60 ∷ 62 ∷ 64 ∷ 66 ∷ 68 ∷ 70 ∷ []

-- a root: a Raw object, or a DICTIONARY or an object of such a number whose owner is null
unfoldable pub is_root : Option SpaceHandles → ObjectValue → Bool
is_root known x =
    is_raw x || ((same_kind kinds.Dictionary (kind_of x) || list_any (λ number. number == number_of x) TOP_NUMBERS) && (owner_of known x == 0))

-- the fields by which a holder of that kind claims an object
unfoldable pub claims_by : Kind → Field → Bool
claims_by holder fields.Entry = true
claims_by holder fields.Model = true
claims_by holder fields.Paper = true
claims_by holder fields.Extra = true
claims_by holder fields.Item = true
claims_by holder fields.Xdict = true
claims_by holder fields.Endblk = true
claims_by holder fields.Seqend = true
claims_by holder fields.Block = same_kind kinds.BlockHeader holder
claims_by holder other = false

-- a slot of a holder claims the object of a handle
abbrev pub is_claim : Kind → ℕ → Slot → Bool
is_claim holder handle slot = claims_by holder slot.field && (slot.target == handle)

-- a claim: the handle of its holder, and the slot
pub record Claim : Type 0 where
  pub holder : ℕ
  pub slot : Slot

-- the claims of one holder on the object of a handle
unfoldable pub claims_of : ℕ → ObjectValue → List Claim
claims_of handle holder = map (λ (slot : Slot). record { holder = handle_of holder; slot = slot }) (filter (is_claim (kind_of holder) handle) (slots holder))

-- all claims on the object of a handle
unfoldable pub claims : List ObjectValue → ℕ → List Claim
claims objects handle = flat_map (claims_of handle) objects

-- the kinds of entities that are members of the block that owns them: all but the begin and the end of a block and attributes
unfoldable pub is_member_kind : Kind → Bool
is_member_kind kind = is_entity_kind kind && (not (same_kind kinds.Block kind) && (not (same_kind kinds.EndBlk kind) && not (same_kind kinds.Attrib kind)))

-- an object is a member of the block of a Typed BLOCK HEADER: a Typed or Plain entity of such a kind that it owns
unfoldable pub is_member : Option SpaceHandles → ObjectValue → ObjectValue → Bool
is_member known header x = is_header header && (not (is_raw x) && (is_member_kind (kind_of x) && (owner_of known x == handle_of header)))

-- where the owner of the object of a handle is, where an object has that handle too
unfoldable pub owner_step : List ObjectValue → Option SpaceHandles → ℕ → Option ℕ
owner_step objects known handle = option_and_then (λ x. there objects (owner_of known x)) (object_at objects handle)

-- what follows the object of a handle in a block, where an object has that handle
unfoldable pub next_step : List ObjectValue → ℕ → Option ℕ
next_step objects handle = option_and_then (λ x. there objects (next_of x)) (object_at objects handle)

-- the object of a handle is a root
unfoldable pub root_at : List ObjectValue → Option SpaceHandles → ℕ → Bool
root_at objects known handle = option_map_or (is_root known) (object_at objects handle) false

-- the object of a handle is a member
unfoldable pub member_at : List ObjectValue → Option SpaceHandles → ObjectValue → ℕ → Bool
member_at objects known header handle = option_map_or (is_member known header) (object_at objects handle) false

-- the handles that a block names as its ends
pub record EndHandles : Type 0 where
  pub first : ℕ
  pub last : ℕ

-- the ends of a block, none where both are null
abbrev pub known_ends : declared.Ends → Option EndHandles
known_ends ends = if (ends.first.target == 0) && (ends.last.target == 0) then None else Some (record { first = ends.first.target; last = ends.last.target })

abbrev pub ends_of_body : Body → Option EndHandles
ends_of_body (bodies.BlockHeader body) = option_and_then known_ends body.ends
ends_of_body other = None

-- the ends of the block of a Typed BLOCK HEADER
unfoldable pub ends_of : ObjectValue → Option EndHandles
ends_of (TypedValue number handle common body) = ends_of_body body
ends_of (PlainValue number handle common rest refs) = None
ends_of (RawValue number handle bytes) = None

-- from an object the owners lead to a root: a list of distinct objects that begins with it, continues each time with the owner, and ends with a root
abbrev pub HasOwnerPath : List ObjectValue → ObjectValue → Type 0
HasOwnerPath objects x = HasPath (owner_step objects (spaces objects)) (root_at objects (spaces objects)) (handle_of x)

-- the members of a block stand in a chain: a list of distinct objects that are exactly the members, from the block's first to its last, each followed by what follows it; without ends there are no members
abbrev pub HasChainBetween : List ObjectValue → ObjectValue → Option EndHandles → Type 0
HasChainBetween objects header None = (handle : ℕ) → member_at objects (spaces objects) header handle ≡ false
HasChainBetween objects header (Some ends) =
    HasChain (next_step objects) (member_at objects (spaces objects) header) (λ handle. handle == ends.first) (λ handle. handle == ends.last)

abbrev pub HasMemberChain : List ObjectValue → ObjectValue → Type 0
HasMemberChain objects header = HasChainBetween objects header (ends_of header)
