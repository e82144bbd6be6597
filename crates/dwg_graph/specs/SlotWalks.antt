-- Walks along a list of slots: a search for one by its place, or a gathering of all. A rule of this project.
use Rattle.std.specs.Prelude.{◌≡◌, ⊤, ℕ, zero, suc, List, [], ◌∷◌, ◌++◌}
use Rattle.dwg_graph.specs.declared.slot_walk.Walk.{Walk}
use Rattle.dwg_graph.specs.declared.slot_walk.Walk.TheVariants.{Found, Left, Gathered, OutOfMemory}
use Rattle.dwg_graph.specs.declared.slot.Slot.{Slot}
use Rattle.dwg_graph.specs.Slots.{FieldReferences, slots_of}

-- so many slots are passed along a list
abbrev pub pass : ℕ → List Slot → Walk
pass count [] = Left count
pass zero (slot ∷ slots) = Found slot
pass (suc count) (slot ∷ slots) = pass count slots

-- a gathering has all of these slots; where there was no memory for one of them it reports nothing
abbrev pub IsGathered : List Slot → Walk → Type 0
IsGathered all (Gathered slots) = slots ≡ all
IsGathered all OutOfMemory = ⊤
IsGathered all (Found slot) = ⊥
IsGathered all (Left count) = ⊥

-- where a walk is after a list: what is found stays found, and slots are gathered after those so far
unfoldable pub IsAfter : Walk → List Slot → Walk → Type 0
IsAfter (Found slot) slots walk = walk ≡ Found slot
IsAfter (Left count) slots walk = walk ≡ pass count slots
IsAfter (Gathered before) slots walk = IsGathered (before ++ slots) walk
IsAfter OutOfMemory slots walk = walk ≡ OutOfMemory

-- a walk goes on along a list
pub record Passes (first : Walk) (slots : List Slot) (last : Walk) : Type 0 where
  pub after : IsAfter first slots last

-- a walk goes on along fields
pub record PassesFields (first : Walk) (all : List FieldReferences) (last : Walk) : Type 0 where
  pub after : IsAfter first (slots_of all) last

-- a walk goes on along one field: whoever goes on from there along others has gone along all
pub record PassesField (first : Walk) (held : FieldReferences) (middle : Walk) : Type 0 where
  pub goes_on : (more : List FieldReferences) (last : Walk) → PassesFields middle more last → PassesFields first (held ∷ more) last
