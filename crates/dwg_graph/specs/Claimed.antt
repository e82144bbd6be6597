-- How often objects are claimed, counted slot by slot. A rule of this project.
use Rattle.std.specs.Prelude.{◌≡◌, ◌<◌, ◌==◌, ◌&&◌, ◌+◌, ◌^◌, ℕ, Bool, List, length, map, Option, Some}
use Rattle.std.specs.List.{filter, sum_by, count_by, slice_get, slice_set, slice_index_or}
use Rattle.dwg_graph.specs.declared.claims.Claimed.{Claimed}
use Rattle.dwg_graph.specs.declared.owner.SpaceHandles.{SpaceHandles}
use Rattle.dwg_graph.specs.declared.slot.Slot.{Slot}
use Rattle.dwg_graph.specs.Counts.{by_holder}
use Rattle.dwg_graph.specs.Graph.{Claim, claims, claims_by}
use Rattle.dwg_graph.specs.Owners.{owner_of}
use Rattle.dwg_graph.specs.Slots.{slots}
use Rattle.dwg_kinds.specs.declared.kind.Kind.{Kind}
use Rattle.dwg_object.specs.Objects.{ObjectValue, handle_of, kind_of}

-- how many references objects hold beside those to their owners
unfoldable pub reference_count : List ObjectValue → ℕ
reference_count objects = sum_by (λ x. length (slots x)) objects

-- the claims on an object by that holder
abbrev pub claims_held : ℕ → List Claim → List Claim
claims_held holder all = filter (by_holder holder) all

-- how many claims there are on each object
abbrev pub claim_counts : List ObjectValue → List ℕ
claim_counts objects = map (λ x. length (claims objects (handle_of x))) objects

-- how many of them are by its owner
abbrev pub own_counts : List ObjectValue → Option SpaceHandles → List ℕ
own_counts objects known = map (λ x. length (claims_held (owner_of known x) (claims objects (handle_of x)))) objects

-- the slots that claim, of a holder of that kind
unfoldable pub claiming : Kind → List Slot → List Slot
claiming kind held = filter (λ (slot : Slot). claims_by kind slot.field) held

-- a slot leads to an object
abbrev pub leads_to : ObjectValue → Slot → Bool
leads_to x slot = slot.target == handle_of x

-- a slot of an object's owner leads to it
abbrev pub leads_down : Option SpaceHandles → ℕ → ObjectValue → Slot → Bool
leads_down known holder x slot = (holder == owner_of known x) && leads_to x slot

-- so many more in one place
abbrev pub raised : List ℕ → ℕ → ℕ → List ℕ
raised counts place more = slice_set counts place (slice_index_or counts place 0 + more)

-- a count for each object, which has room for so many more
pub record IsOpen (objects : List ObjectValue) (more : ℕ) (counts : List ℕ) : Type 0 where
  pub long : length counts ≡ length objects
  pub room : (place : ℕ) → place < length objects → slice_index_or counts place 0 + more < 2 ^ 58

-- each count grows by the slots for which the test of its object holds
pub record Adds (objects : List ObjectValue) (test : ObjectValue → Slot → Bool) (counted : List Slot) (before after : List ℕ) : Type 0 where
  pub long : length after ≡ length before
  pub each : (place : ℕ) (x : ObjectValue) → slice_get objects place ≡ Some x → slice_index_or after place 0 ≡ slice_index_or before place 0 + count_by (test x) counted

-- the counts by any object and by the owner have room for so many more
pub record AreBothOpen (objects : List ObjectValue) (more : ℕ) (counts : Claimed) : Type 0 where
  pub all : IsOpen objects more counts.all.items
  pub own : IsOpen objects more counts.own.items

-- both grow by what slots of a holder claim
pub record AddsBoth (objects : List ObjectValue) (known : Option SpaceHandles) (holder : ObjectValue) (counted : List Slot) (before after : Claimed) : Type 0 where
  pub all : Adds objects leads_to (claiming (kind_of holder) counted) before.all.items after.all.items
  pub own : Adds objects (leads_down known (handle_of holder)) (claiming (kind_of holder) counted) before.own.items after.own.items

-- both are those of all claims on the objects
pub record AreBothCounted (objects : List ObjectValue) (known : Option SpaceHandles) (counts : Claimed) : Type 0 where
  pub all : counts.all.items ≡ claim_counts objects
  pub own : counts.own.items ≡ own_counts objects known
