-- Tests of the references of objects, which report whether what they stand for holds where handles ascend. A rule of this project.
use Rattle.std.specs.Prelude.{◌==◌, ◌||◌, ℕ, Bool, true, false, List, [], ◌∷◌, Option, is_some, if◌then◌else◌}
use Rattle.std.specs.Option.{option_map, option_map_or}
use Rattle.dwg_graph.specs.declared.owner.SpaceHandles.{SpaceHandles}
use Rattle.dwg_graph.specs.declared.slot.Slot.{Slot}
use Rattle.dwg_graph.specs.Graph.{is_typed, object_at, is_root, is_member, Claim, claims}
use Rattle.dwg_graph.specs.Owners.{owner_of}
use Rattle.dwg_kinds.specs.declared.field.Need.{Need}
use Rattle.dwg_kinds.specs.declared.field.Need.TheVariants.{Null, Any, NullOrAny, Entity, NullOrEntity, Is, NullOrIs, Attributed}
use Rattle.dwg_kinds.specs.declared.kind.Kind.{Kind}
use Rattle.dwg_kinds.specs.declared.kind.Kind.TheVariants as kinds
use Rattle.dwg_kinds.specs.Kinds.{is_entity_kind, same_kind}
use Rattle.dwg_kinds.specs.Needs.{need_of}
use Rattle.dwg_object.specs.Objects.{ObjectValue, handle_of, kind_of}

-- a kind is one of those that can have attributes or vertices
abbrev pub is_attributed : Kind → Bool
is_attributed kind = same_kind kinds.Insert kind || (same_kind kinds.MInsert kind || (same_kind kinds.Polyline3d kind || same_kind kinds.PlainEntity kind))

-- a target meets a need, where that is the kind of the object that has the handle
unfoldable pub meets : Need → ℕ → Option Kind → Bool
meets Null target found = target == 0
meets Any target found = is_some found
meets NullOrAny target found = (target == 0) || is_some found
meets Entity target found = option_map_or is_entity_kind found false
meets NullOrEntity target found = (target == 0) || option_map_or is_entity_kind found false
meets (Is kind) target found = option_map_or (same_kind kind) found false
meets (NullOrIs kind) target found = (target == 0) || option_map_or (same_kind kind) found false
meets Attributed target found = option_map_or is_attributed found false

-- the kind of the object of a handle
abbrev pub kind_at : List ObjectValue → ℕ → Option Kind
kind_at objects handle = option_map kind_of (object_at objects handle)

-- a reference of an object meets its need
unfoldable pub is_met : List ObjectValue → ObjectValue → Slot → Bool
is_met objects x slot = option_map_or (λ need. meets need slot.target (kind_at objects slot.target)) (need_of slot.field (kind_of x)) false

-- no claim is asked for
unfoldable pub is_exempt : List ObjectValue → Option SpaceHandles → ObjectValue → Bool
is_exempt objects known x =
    is_root known x
    || (same_kind kinds.Attrib (kind_of x)
    || (same_kind kinds.Vertex3d (kind_of x) || option_map_or (λ owner. is_member known owner x) (object_at objects (owner_of known x)) false))

-- the only claim is by that holder
abbrev pub is_sole_claim : ℕ → List Claim → Bool
is_sole_claim holder [] = false
is_sole_claim holder (claim ∷ []) = claim.holder == holder
is_sole_claim holder (claim ∷ other ∷ more) = false

-- there is no claim
abbrev pub is_unclaimed : List Claim → Bool
is_unclaimed [] = true
is_unclaimed (claim ∷ more) = false

-- the owner claims it alone where it is Typed, and nothing does where it isn't
unfoldable pub is_claimed : List ObjectValue → Option SpaceHandles → ObjectValue → Bool
is_claimed objects known x =
    let all : List Claim = claims objects (handle_of x) in
    option_map_or (λ owner. if is_typed owner then is_sole_claim (owner_of known x) all else is_unclaimed all) (object_at objects (owner_of known x)) false
