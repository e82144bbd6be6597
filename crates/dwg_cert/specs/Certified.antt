-- The certificate of a drawing's objects: how many owners lead from each to a root, and where it stands in the chain of its block. A rule of this project.
use Rattle.std.specs.Prelude.{◌≡◌, ◌-◌, ◌==◌, ◌↔◌, ℕ, List, length, map, Option, Some, None, IsTrue, Contains, if◌then◌else◌}
use Rattle.std.specs.List.{AllByRecursion, slice_get}
use Rattle.std.specs.Option.{option_and_then, option_map}
use Rattle.dwg_cert.specs.Accepts.{rank_at, place_at, members_of, Accepts}
use Rattle.dwg_cert.specs.declared.entry.Entry.{Entry}
use Rattle.dwg_graph.specs.Graph.{object_at, is_header, is_member, owner_step, next_step, root_at, member_at, EndHandles, ends_of}
use Rattle.dwg_graph.specs.Owners.{spaces, owner_of}
use Rattle.dwg_graph.specs.Placed.{place_in}
use Rattle.dwg_graph.specs.Places.{Ascend, handles_of}
use Rattle.dwg_graph.specs.Sound.{IsSound}
use Rattle.dwg_object.specs.Objects.{ObjectValue, handle_of}
use Rattle.dwg_object.specs.Written.{IsWhole}
use Rattle.dwg_chains.specs.Paths.{HasRank, IsChain}
use Rattle.dwg_chains.specs.Ways.{way}

-- how many owners lead from an object to a root
unfoldable pub rank_of : List ObjectValue → ObjectValue → Option ℕ
rank_of objects x =
    option_map (λ path. length path - 1) (way (owner_step objects (spaces objects)) (root_at objects (spaces objects)) (length objects) (handle_of x))

-- the handles from one end of a block to the other
unfoldable pub between : List ObjectValue → EndHandles → Option (List ℕ)
between objects ends = way (next_step objects) (λ handle. handle == ends.last) (length objects) ends.first

-- where a handle stands among those from one end of a block to the other
abbrev pub place_between : List ObjectValue → ℕ → EndHandles → Option ℕ
place_between objects handle ends = option_and_then (λ chain. place_in chain handle) (between objects ends)

-- where an object stands in the chain of a block, if it is a member
abbrev pub place_in_block : List ObjectValue → ObjectValue → ObjectValue → Option ℕ
place_in_block objects x block = if is_member (spaces objects) block x then option_and_then (place_between objects (handle_of x)) (ends_of block) else None

-- where an object stands in the chain of the block that owns it
unfoldable pub place_of : List ObjectValue → ObjectValue → Option ℕ
place_of objects x = option_and_then (place_in_block objects x) (object_at objects (owner_of (spaces objects) x))

-- the entry of an object, and the certificate of all
abbrev pub entry_of : List ObjectValue → ObjectValue → Entry
entry_of objects x = record { handle = handle_of x; rank = rank_of objects x; chain = place_of objects x }

unfoldable pub certificate_of : List ObjectValue → List Entry
certificate_of objects = map (entry_of objects) objects

-- a handle stands at a place of the chain of a block's members
pub record StandsInChain (objects : List ObjectValue) (handle place : ℕ) : Type 0 where
  pub block : ObjectValue
  pub stands : Contains objects block
  pub header : IsTrue (is_header block)
  pub ends : EndHandles
  pub known : ends_of block ≡ Some ends
  pub chain : List ℕ
  pub is : IsChain (next_step objects) (member_at objects (spaces objects) block) (λ h. h == ends.first) (λ h. h == ends.last) chain
  pub there : slice_get chain place ≡ Some handle

-- a rank is the count of the steps from owner to owner up to a root, and there is none where no such steps lead to one
abbrev pub RanksAreSteps : Type 0
RanksAreSteps = (objects : List ObjectValue) (x : ObjectValue) (rank : ℕ) → Contains objects x
    → (rank_of objects x ≡ Some rank) ↔ HasRank (owner_step objects (spaces objects)) (root_at objects (spaces objects)) (handle_of x) rank

-- in a sound drawing a place is the one in the chain of a block's members, and there is none of what stands in no chain
abbrev pub PlacesAreInChains : Type 0
PlacesAreInChains = (objects : List ObjectValue) (x : ObjectValue) (place : ℕ) → Ascend (handles_of objects) → IsSound objects → Contains objects x
    → (place_of objects x ≡ Some place) ↔ StandsInChain objects (handle_of x) place

-- what an accepted certificate is of is sound, whoever made it
abbrev pub AcceptedIsSound : Type 0
AcceptedIsSound = (objects : List ObjectValue) (cert : List Entry) → Ascend (handles_of objects) → Accepts objects cert → IsSound objects

-- the certificate of a sound drawing is accepted
abbrev pub SoundIsAccepted : Type 0
SoundIsAccepted = (objects : List ObjectValue) → Ascend (handles_of objects) → IsSound objects → Accepts objects (certificate_of objects)

-- accepted certificates of the same whole objects agree on ranks: where both give the object of a handle one, it is the same
abbrev pub AcceptedRanksAgree : Type 0
AcceptedRanksAgree = (objects : List ObjectValue) (cert other : List Entry) (handle rank also : ℕ) → Ascend (handles_of objects) → AllByRecursion IsWhole objects
    → Accepts objects cert → Accepts objects other → rank_at cert handle ≡ Some rank → rank_at other handle ≡ Some also → rank ≡ also

-- and they agree on the places of the members of each Typed BLOCK HEADER
abbrev pub AcceptedPlacesAgree : Type 0
AcceptedPlacesAgree = (objects : List ObjectValue) (cert other : List Entry) (block x : ObjectValue) (place also : ℕ) → Ascend (handles_of objects)
    → Accepts objects cert → Accepts objects other → Contains objects block → IsTrue (is_header block) → Contains (members_of objects block) x
    → place_at cert (handle_of x) ≡ Some place → place_at other (handle_of x) ≡ Some also → place ≡ also
