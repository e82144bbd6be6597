-- What the checker of a certificate holds. A rule of this project.
use Rattle.std.specs.Prelude.{◌≡◌, ◌<◌, ◌+◌, ◌^◌, ℕ, Bool, List, length, map, take, Option, Some, IsTrue}
use Rattle.std.specs.List.{AllByRecursion, filter, list_all, slice_get, slice_index_or}
use Rattle.dwg_cert.specs.Accepts.{handles_in, members_of}
use Rattle.dwg_cert.specs.declared.ends.BlockEnds.{BlockEnds}
use Rattle.dwg_cert.specs.declared.entry.Entry.{Entry}
use Rattle.dwg_graph.specs.Claimed.{AreBothCounted, reference_count}
use Rattle.dwg_graph.specs.Graph.{EndHandles, is_member}
use Rattle.dwg_graph.specs.Owners.{spaces}
use Rattle.dwg_graph.specs.Placed.{owner_table}
use Rattle.dwg_graph.specs.Places.{Ascend, handles_of}
use Rattle.dwg_graph.specs.Slots.{slots}
use Rattle.dwg_graph.specs.Tests.{is_met}
use Rattle.dwg_graph.specs.declared.claims.Claimed.{Claimed}
use Rattle.dwg_graph.specs.declared.owner.SpaceHandles.{SpaceHandles}
use Rattle.dwg_object.specs.Objects.{ObjectValue}
use Rattle.dwg_object.specs.Written.{IsWhole}

-- objects, and a certificate that may be theirs
pub record Checked : Type 0 where
  pub objects : List ObjectValue
  pub cert : List Entry

-- what the checker of a certificate asks of objects: their handles ascend, they are whole, and they and their references are few
pub record CanBeChecked (objects : List ObjectValue) : Type 0 where
  pub ascending : Ascend (handles_of objects)
  pub whole : AllByRecursion IsWhole objects
  pub few : length objects + reference_count objects < 2 ^ 58

-- how many members each block has
abbrev pub member_counts : List ObjectValue → List ℕ
member_counts objects = map (λ block. length (members_of objects block)) objects

-- each slot of an object meets its need
unfoldable pub are_met : List ObjectValue → ObjectValue → Bool
are_met objects x = list_all (is_met objects x) (slots x)

-- the checker knows the spaces of the objects, their handles and where their owners stand, and has counted members and claims; the certificate has an entry for each object, and each slot meets its need
pub record IsChecker (objects : List ObjectValue) (cert : List Entry) (known : Option SpaceHandles) (index : List ℕ) (owners : List (Option ℕ)) (counts : List ℕ) (claimed : Claimed) : Type 0 where
  pub can : CanBeChecked objects
  pub entries : handles_in cert ≡ handles_of objects
  pub knows : known ≡ spaces objects
  pub handles : index ≡ handles_of objects
  pub owned : owners ≡ owner_table objects (spaces objects)
  pub members : counts ≡ member_counts objects
  pub claims : AreBothCounted objects (spaces objects) claimed
  pub met : IsTrue (list_all (are_met objects) objects)

-- the ends that a block has, as they are defined
abbrev pub end_handles : BlockEnds → EndHandles
end_handles ends = record { first = ends.first; last = ends.last }

-- of each block those members are counted that are among so many objects
pub record CountsMembers (objects : List ObjectValue) (known : Option SpaceHandles) (count : ℕ) (counts : List ℕ) : Type 0 where
  pub long : length counts ≡ length objects
  pub each : (place : ℕ) (block : ObjectValue) → slice_get objects place ≡ Some block → slice_index_or counts place 0 ≡ length (filter (is_member known block) (take count objects))
