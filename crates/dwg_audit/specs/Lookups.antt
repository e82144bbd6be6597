-- How many probes lookups take, and where the references of objects lead. A rule of this project.
use Rattle.std.specs.Prelude.{◌≡◌, ◌==◌, ◌<◌, ◌≤◌, ◌+◌, ◌-◌, ◌*◌, ◌^◌, ℕ, suc, Bool, List, length, map, take, drop, find, flat_map, Option}
use Rattle.std.specs.List.{slice_index_or}
use Rattle.std.specs.Option.{option_and_then}
use Rattle.dwg_audit.specs.declared.lookups.ObjectReferences.{ObjectReferences}
use Rattle.dwg_audit.specs.declared.lookups.Lookups.{Lookups}
use Rattle.dwg_audit.specs.declared.lookups.SlotTable.{SlotTable}
use Rattle.dwg_graph.specs.declared.owner.SpaceHandles.{SpaceHandles}
use Rattle.dwg_graph.specs.declared.slot.Slot.{Slot}
use Rattle.dwg_graph.specs.Owners.{next_of, owner_of}
use Rattle.dwg_graph.specs.Placed.{next_table, owner_table, place_in}
use Rattle.dwg_graph.specs.Places.{handles_of}
use Rattle.dwg_graph.specs.Slots.{slots}
use Rattle.dwg_kinds.specs.declared.field.Field.{Field}
use Rattle.dwg_kinds.specs.Needs.{field_number}
use Rattle.dwg_object.specs.Objects.{ObjectValue}

-- so many lookups among so many handles: each takes at most as many probes as the count of the handles has binary digits
abbrev pub TakeAtMost : ℕ → ℕ → ℕ → ℕ → Type 0
TakeAtMost handles lookups before after = (k : ℕ) → handles < 2 ^ k → after ≤ before + lookups * k

-- where the targets of slots stand
abbrev pub slot_places : List ℕ → List Slot → List (Option ℕ)
slot_places handles held = map (λ (slot : Slot). place_in handles slot.target) held

-- a slot is of a field
abbrev pub is_of : Field → Slot → Bool
is_of field slot = field_number field == field_number slot.field

-- where the target of the first slot of a field stands, if there is one
abbrev pub place_of : List ℕ → Field → List Slot → Option ℕ
place_of handles field held = option_and_then (λ (slot : Slot). place_in handles slot.target) (find (is_of field) held)

-- the slots of all objects, one object after the other
unfoldable pub all_slots : List ObjectValue → List Slot
all_slots objects = flat_map slots objects

-- where the slots of each object begin, and after the last object where they end
pub record AreStarts (objects : List ObjectValue) (starts : List ℕ) : Type 0 where
  pub count : length starts ≡ length objects + 1
  pub each : (place : ℕ) → place ≤ length objects → slice_index_or starts place 0 ≡ length (all_slots (take place objects))

-- a table has the slots of all objects, and where the targets stand
pub record IsSlotTable (objects : List ObjectValue) (table : SlotTable) : Type 0 where
  pub slots : table.slots ≡ all_slots objects
  pub places : table.places.items ≡ slot_places (handles_of objects) (all_slots objects)
  pub starts : AreStarts objects table.starts.items

-- of things that stand along the slots of all objects, those of the object at a place
abbrev pub part_of : {T : Type 0} → List ObjectValue → ℕ → List T → List T
part_of {T} objects place things =
    take (length (all_slots (take (suc place) objects)) - length (all_slots (take place objects))) (drop (length (all_slots (take place objects))) things)

-- what objects refer to is gathered
pub record AreGathered (objects : List ObjectValue) (known : Option SpaceHandles) (gathered : ObjectReferences) : Type 0 where
  pub owners : gathered.owners.items ≡ map (owner_of known) objects
  pub next : gathered.next.items ≡ map next_of objects
  pub slots : gathered.slots ≡ all_slots objects
  pub starts : AreStarts objects gathered.starts.items

-- it is looked up
pub record AreLookups (objects : List ObjectValue) (known : Option SpaceHandles) (lookups : Lookups) : Type 0 where
  pub owners : lookups.owners.items ≡ owner_table objects known
  pub next : lookups.next.items ≡ next_table objects
  pub slots : IsSlotTable objects lookups.slots
