-- When the references of a drawing hold together. A rule of this project.
use Rattle.std.specs.Prelude.{⊤, ◌≡◌, ◌⊎◌, ℕ, Bool, true, false, List, [], ◌∷◌, length, Option, Some, None, IsTrue, Contains}
use Rattle.dwg_graph.specs.declared.slot.Slot.{Slot}
use Rattle.dwg_graph.specs.Graph.{is_typed, is_header, is_root, is_member, Claim, claims, HasOwnerPath, HasMemberChain}
use Rattle.dwg_graph.specs.Owners.{block_controls, spaces, owner_of}
use Rattle.dwg_graph.specs.Slots.{slots}
use Rattle.dwg_kinds.specs.declared.field.Field.TheVariants as fields
use Rattle.dwg_kinds.specs.declared.field.Need.{Need}
use Rattle.dwg_kinds.specs.declared.field.Need.TheVariants.{Null, Any, NullOrAny, Entity, NullOrEntity, Is, NullOrIs, Attributed}
use Rattle.dwg_kinds.specs.declared.kind.Kind.{Kind}
use Rattle.dwg_kinds.specs.declared.kind.Kind.TheVariants as kinds
use Rattle.dwg_kinds.specs.Kinds.{is_entity_kind}
use Rattle.dwg_kinds.specs.Needs.{need_of}
use Rattle.dwg_object.specs.Objects.{ObjectValue, handle_of, kind_of}

-- an object of the drawing has the handle, and its kind is one of those
pub record IsOfKind (objects : List ObjectValue) (handle : ℕ) (Allowed : Kind → Type 0) : Type 0 where
  pub object : ObjectValue
  pub stands : Contains objects object
  pub has : handle_of object ≡ handle
  pub kind : Allowed (kind_of object)

-- a target is what is needed: null, or any object, or one of some kinds, whatever its form
unfoldable pub Meets : List ObjectValue → Need → ℕ → Type 0
Meets objects Null target = target ≡ 0
Meets objects Any target = IsOfKind objects target (λ kind. ⊤)
Meets objects NullOrAny target = (target ≡ 0) ⊎ IsOfKind objects target (λ kind. ⊤)
Meets objects Entity target = IsOfKind objects target (λ kind. IsTrue (is_entity_kind kind))
Meets objects NullOrEntity target = (target ≡ 0) ⊎ IsOfKind objects target (λ kind. IsTrue (is_entity_kind kind))
Meets objects (Is needed) target = IsOfKind objects target (λ kind. kind ≡ needed)
Meets objects (NullOrIs needed) target = (target ≡ 0) ⊎ IsOfKind objects target (λ kind. kind ≡ needed)
Meets objects Attributed target = IsOfKind objects target (λ kind. (kind ≡ kinds.Insert) ⊎ (kind ≡ kinds.MInsert) ⊎ (kind ≡ kinds.Polyline3d) ⊎ (kind ≡ kinds.PlainEntity))

-- a target is what a field needs that the holder has
abbrev pub MeetsSome : List ObjectValue → Option Need → ℕ → Type 0
MeetsSome objects None target = ⊥
MeetsSome objects (Some need) target = Meets objects need target

-- the owner and each slot of an object meet their needs
pub record Resolves (objects : List ObjectValue) (x : ObjectValue) : Type 0 where
  pub owner : MeetsSome objects (need_of fields.Owner (kind_of x)) (owner_of (spaces objects) x)
  pub slots : (slot : Slot) → Contains (slots x) slot → MeetsSome objects (need_of slot.field (kind_of x)) slot.target

-- no claim is asked for of roots, attributes, vertices in space, and members of the block of a Typed BLOCK HEADER
abbrev pub IsExempt : List ObjectValue → ObjectValue → Type 0
IsExempt objects x =
    IsTrue (is_root (spaces objects) x)
    ⊎ (kind_of x ≡ kinds.Attrib)
    ⊎ (kind_of x ≡ kinds.Vertex3d)
    ⊎ ((header : ObjectValue) × Contains objects header × IsTrue (is_member (spaces objects) header x))

-- there is exactly one claim, by that holder
abbrev pub IsSoleClaim : ℕ → List Claim → Type 0
IsSoleClaim holder [] = ⊥
IsSoleClaim holder (claim ∷ []) = claim.holder ≡ holder
IsSoleClaim holder (claim ∷ other ∷ more) = ⊥

-- an object of the drawing owns x, and it is Typed or isn't
pub record IsOwnedBy (objects : List ObjectValue) (x : ObjectValue) (typed : Bool) : Type 0 where
  pub owner : ObjectValue
  pub stands : Contains objects owner
  pub has : handle_of owner ≡ owner_of (spaces objects) x
  pub form : is_typed owner ≡ typed

-- a Typed owner and exactly one claim, by that owner, or a Plain or Raw owner and no claim
abbrev pub IsClaimed : List ObjectValue → ObjectValue → Type 0
IsClaimed objects x =
    (IsOwnedBy objects x true × IsSoleClaim (owner_of (spaces objects) x) (claims objects (handle_of x)))
    ⊎ (IsOwnedBy objects x false × (claims objects (handle_of x) ≡ []))

-- objects have the table of blocks, the references and the claims that they need
pub record MeetNeeds (objects : List ObjectValue) : Type 0 where
  -- there is exactly one Typed BLOCK CONTROL
  pub control : length (block_controls objects) ≡ 1
  -- the owner and each slot of each Typed object meet their needs
  pub resolve : (x : ObjectValue) → Contains objects x → IsTrue (is_typed x) → Resolves objects x
  -- each Typed object of which a claim is asked is claimed by its owner alone, or by none where its owner isn't Typed
  pub claim : (x : ObjectValue) → Contains objects x → IsTrue (is_typed x) → IsExempt objects x ⊎ IsClaimed objects x

-- the references of a drawing hold together
pub record IsSound (objects : List ObjectValue) : Type 0 where
  -- there is exactly one Typed BLOCK CONTROL, the owner and each slot of each Typed object meet their needs, and the claims are as they must be
  pub needs : MeetNeeds objects
  -- the members of each Typed BLOCK HEADER stand in a chain
  pub chain : (x : ObjectValue) → Contains objects x → IsTrue (is_header x) → HasMemberChain objects x
  -- the owners of each Typed object lead to a root
  pub path : (x : ObjectValue) → Contains objects x → IsTrue (is_typed x) → HasOwnerPath objects x
