-- What holds of the slots of objects. A rule of this project.
use Rattle.std.specs.Prelude.{◌≡◌, ◌⊎◌, ℕ, ◌+◌, ◌<◌, ◌≤◌, List, length, IsTrue, AllPairs, Contains}
use Rattle.dwg_base.specs.declared.version.Version.{Version}
use Rattle.dwg_base.specs.declared.version.Version.TheVariants.{Ac1015}
use Rattle.dwg_classes.specs.declared.class.Class.{Class}
use Rattle.dwg_graph.specs.declared.slot.Slot.{Slot}
use Rattle.dwg_graph.specs.Slots.{slots}
use Rattle.dwg_kinds.specs.declared.field.Field.TheVariants as fields
use Rattle.dwg_kinds.specs.Needs.{field_number, has_field}
use Rattle.dwg_common.specs.Entities.{entity_common}
use Rattle.dwg_common.specs.NonEntities.{object_common}
use Rattle.dwg_grammar.specs.Reference.{Reference}
use Rattle.std.specs.Prelude.{[], ◌∷◌}
use Rattle.std.specs.Option.{option_map_or}
use Rattle.dwg_common.specs.Layouts.{NEWER}
use Rattle.dwg_object.specs.declared.common.Common.TheVariants as commons
use Rattle.dwg_object.specs.OwnBodies.{body_kind, own_body}
use Rattle.dwg_object.specs.declared.body.Body.{Body}
use Rattle.dwg_object.specs.declared.common.Common.{Common}
use Rattle.dwg_object.specs.Frames.{frame_bytes}
use Rattle.dwg_object.specs.Objects.{ObjectValue, TypedValue, kind_of}
use Rattle.dwg_object.specs.Written.{IsWhole, IsValidObject}

-- the kind of an object has the fields of its slots, and an owner
pub record HoldsFields (x : ObjectValue) : Type 0 where
  pub slots : (slot : Slot) → Contains (slots x) slot → IsTrue (has_field slot.field (kind_of x))
  pub owner : IsTrue (has_field fields.Owner (kind_of x))

-- every slot of an object is of a field that its kind has
abbrev pub SlotsAreHeld : Type 0
SlotsAreHeld = (x : ObjectValue) (slot : Slot) → IsWhole x → Contains (slots x) slot → IsTrue (has_field slot.field (kind_of x))

-- the kind of a Typed object has an owner
abbrev pub OwnersAreHeld : Type 0
OwnersAreHeld = (number handle : ℕ) (common : Common) (body : Body) → IsTrue (has_field fields.Owner (kind_of (TypedValue number handle common body)))

-- an object is framed by more bytes than it has slots, in each version
abbrev pub SlotsAreFew : Type 0
SlotsAreFew = (version : Version) (classes : List Class) (x : ObjectValue) → IsValidObject version classes x → 1 + length (slots x) ≤ length (frame_bytes version x)

-- how many items of application data and references a common part has, that to the owner included
abbrev pub count_of_common : ℕ → Common → ℕ
count_of_common handle (commons.Entity common) = length common.app + length ((entity_common NEWER handle).references common)
count_of_common handle (commons.Object common) = length common.app + length ((object_common NEWER handle).references common)

-- how many owners a common part names
abbrev pub owners_of_common : Common → ℕ
owners_of_common (commons.Entity common) = length (option_map_or (λ (owner : Reference). owner ∷ []) common.owner [])
owners_of_common (commons.Object common) = 1

-- a Typed object has a slot for each item of application data and each reference that AC1015 spells, but for that to its owner
abbrev pub NoneIsLeftOut : Type 0
NoneIsLeftOut = (number handle : ℕ) (common : Common) (body : Body) → length (slots (TypedValue number handle common body)) + owners_of_common common ≡ count_of_common handle common + length ((own_body Ac1015 (body_kind body) handle).references body)

-- a slot stands before another by its field, or by its position in the same field
abbrev pub StandsBefore : Slot → Slot → Type 0
StandsBefore one other = (field_number one.field < field_number other.field) ⊎ ((field_number one.field ≡ field_number other.field) × (one.position < other.position))

-- the slots of an object ascend strictly
abbrev pub SlotsAscend : Type 0
SlotsAscend = (x : ObjectValue) → IsWhole x → AllPairs StandsBefore (slots x)
