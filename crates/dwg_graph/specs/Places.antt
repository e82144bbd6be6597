-- Where the object of a handle stands among objects whose handles ascend. A rule of this project.
use Rattle.std.specs.Prelude.{◌≡◌, ◌<◌, ◌≤◌, ◌+◌, ℕ, List, length, map, Option, Some, None, Contains, AllPairs}
use Rattle.std.specs.List.{slice_get, slice_index_or}
use Rattle.dwg_object.specs.Objects.{ObjectValue, handle_of}

-- handles that ascend
abbrev pub Ascend : List ℕ → Type 0
Ascend handles = AllPairs (λ one other. one < other) handles

-- the handles of objects
abbrev pub handles_of : List ObjectValue → List ℕ
handles_of objects = map handle_of objects

-- the place of a handle in a list, none where the list hasn't got it
abbrev pub IsPlaceOf : List ℕ → ℕ → Option ℕ → Type 0
IsPlaceOf handles handle (Some place) = slice_get handles place ≡ Some handle
IsPlaceOf handles handle None = Contains handles handle → ⊥

-- a handle can stand among handles only at so many places from one on: all before them are less, and all after them are greater
pub record CanStand (handles : List ℕ) (handle from width : ℕ) : Type 0 where
  pub within : from + width ≤ length handles
  pub below : (i : ℕ) → i < from → slice_index_or handles i 0 < handle
  pub above : (i : ℕ) → from + width ≤ i → i < length handles → handle < slice_index_or handles i 0
