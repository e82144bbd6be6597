-- When a certificate is one of a drawing's objects: its ranks lead to roots, and its places follow the chains of blocks. A rule of this project.
use Rattle.std.specs.Prelude.{◌≡◌, ◌≢◌, ◌<◌, ◌==◌, ℕ, suc, false, List, [], length, map, find, Option, Some, None, IsTrue, is_some, Contains}
use Rattle.std.specs.List.{filter}
use Rattle.std.specs.Option.{option_and_then}
use Rattle.dwg_cert.specs.declared.entry.Entry.{Entry}
use Rattle.dwg_graph.specs.Graph.{is_typed, is_raw, is_header, is_root, is_member, EndHandles, ends_of}
use Rattle.dwg_graph.specs.Owners.{spaces, owner_of, next_of}
use Rattle.dwg_graph.specs.Places.{handles_of}
use Rattle.dwg_graph.specs.Sound.{MeetNeeds}
use Rattle.dwg_object.specs.Objects.{ObjectValue, handle_of}

-- the handles of entries
abbrev pub handles_in : List Entry → List ℕ
handles_in cert = map (λ (entry : Entry). entry.handle) cert

-- the entry of a handle
unfoldable pub entry_at : List Entry → ℕ → Option Entry
entry_at cert handle = find (λ (entry : Entry). entry.handle == handle) cert

-- the rank that a certificate gives the object of a handle
abbrev pub rank_at : List Entry → ℕ → Option ℕ
rank_at cert handle = option_and_then (λ (entry : Entry). entry.rank) (entry_at cert handle)

-- the place in its block's chain that it gives it
abbrev pub place_at : List Entry → ℕ → Option ℕ
place_at cert handle = option_and_then (λ (entry : Entry). entry.chain) (entry_at cert handle)

-- an object is Typed or Plain, and an object of such a rank owns it
pub record IsOwnedAt (objects : List ObjectValue) (cert : List Entry) (x : ObjectValue) (rank : ℕ) : Type 0 where
  pub form : is_raw x ≡ false
  pub owner : ObjectValue
  pub stands : Contains objects owner
  pub has : handle_of owner ≡ owner_of (spaces objects) x
  pub ranked : rank_at cert (handle_of owner) ≡ Some rank

-- the members of a block
abbrev pub members_of : List ObjectValue → ObjectValue → List ObjectValue
members_of objects block = filter (is_member (spaces objects) block) objects

-- a handle is that of a member of a block that has such a place
pub record IsMemberAt (objects : List ObjectValue) (cert : List Entry) (block : ObjectValue) (handle place : ℕ) : Type 0 where
  pub member : ObjectValue
  pub stands : Contains (members_of objects block) member
  pub has : handle_of member ≡ handle
  pub placed : place_at cert handle ≡ Some place

-- places go along the members of a block from its first to its last: the first is a member of place 0; each member has a place below their count; what follows a member in the block is the member of the place after, where that is below their count too; and else the member is the last
pub record AreInPlace (objects : List ObjectValue) (cert : List Entry) (block : ObjectValue) (ends : EndHandles) : Type 0 where
  pub first : IsMemberAt objects cert block ends.first 0
  pub below : (x : ObjectValue) → Contains (members_of objects block) x → (place : ℕ) × (place_at cert (handle_of x) ≡ Some place) × (place < length (members_of objects block))
  pub next : (x : ObjectValue) (place : ℕ) → Contains (members_of objects block) x → place_at cert (handle_of x) ≡ Some place → suc place < length (members_of objects block)
      → IsMemberAt objects cert block (next_of x) (suc place)
  pub last : (x : ObjectValue) (place : ℕ) → Contains (members_of objects block) x → place_at cert (handle_of x) ≡ Some place → suc place ≡ length (members_of objects block) → handle_of x ≡ ends.last

-- so between the ends that a block has; members without ends aren't in place
abbrev pub AreInPlaceBetween : List ObjectValue → List Entry → ObjectValue → Option EndHandles → Type 0
AreInPlaceBetween objects cert block None = ⊥
AreInPlaceBetween objects cert block (Some ends) = AreInPlace objects cert block ends

-- a certificate is one of these objects: what it says of them, and what needs no certificate, holds
pub record Accepts (objects : List ObjectValue) (cert : List Entry) : Type 0 where
  -- its handles are those of the objects
  pub handles : handles_in cert ≡ handles_of objects
  -- there is exactly one Typed BLOCK CONTROL, the owner and each slot of each Typed object meet their needs, and the claims are as they must be
  pub needs : MeetNeeds objects
  -- each Typed object has a rank
  pub ranked : (x : ObjectValue) → Contains objects x → IsTrue (is_typed x) → IsTrue (is_some (rank_at cert (handle_of x)))
  -- an object of rank 0 is a root
  pub root : (x : ObjectValue) → Contains objects x → rank_at cert (handle_of x) ≡ Some 0 → IsTrue (is_root (spaces objects) x)
  -- an object of any other rank is Typed or Plain, and an object of the rank before owns it
  pub owned : (x : ObjectValue) (rank : ℕ) → Contains objects x → rank_at cert (handle_of x) ≡ Some (suc rank) → IsOwnedAt objects cert x rank
  -- a Typed BLOCK HEADER without members has no ends: they are absent, or both null
  pub empty : (x : ObjectValue) → Contains objects x → IsTrue (is_header x) → members_of objects x ≡ [] → ends_of x ≡ None
  -- the members of each other are in place between its ends
  pub chain : (x : ObjectValue) → Contains objects x → IsTrue (is_header x) → members_of objects x ≢ [] → AreInPlaceBetween objects cert x (ends_of x)
