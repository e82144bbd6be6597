-- Owner paths and chains of members as lists of the objects themselves, and that they are those over handles. A rule of this project.
use Rattle.std.specs.Prelude.{◌≡◌, ◌==◌, ◌↔◌, ℕ, Bool, false, List, Option, Some, None, IsTrue, Contains}
use Rattle.dwg_graph.specs.Graph.{object_at, is_root, is_member, EndHandles, ends_of, HasOwnerPath, HasMemberChain}
use Rattle.dwg_graph.specs.Owners.{spaces, owner_of, next_of}
use Rattle.dwg_graph.specs.Places.{Ascend, handles_of}
use Rattle.dwg_object.specs.Objects.{ObjectValue, handle_of}
use Rattle.dwg_chains.specs.Paths.{AreDistinct, Begins, Ends, Follows, HasPath}

-- the object that owns another, if it is there
abbrev pub owner_object : List ObjectValue → ObjectValue → Option ObjectValue
owner_object objects x = object_at objects (owner_of (spaces objects) x)

-- the object that follows another in a block, if it is there
abbrev pub next_object : List ObjectValue → ObjectValue → Option ObjectValue
next_object objects x = object_at objects (next_of x)

-- a list of distinct objects that begins with x, in which each but the last is followed by its owner, and whose last is a root
abbrev pub HasObjectPath : List ObjectValue → ObjectValue → Type 0
HasObjectPath objects x = HasPath (owner_object objects) (is_root (spaces objects)) x

-- a list of distinct things that are exactly the members among these, in which each but the last leads to the next, whose first and whose last pass the tests for them
pub record IsChainOf {A : Type 0} (all : List A) (step : A → Option A) (member first last : A → Bool) (chain : List A) : Type 0 where
  pub distinct : AreDistinct chain
  pub whole : (x : A) → (Contains all x × IsTrue (member x)) ↔ Contains chain x
  pub begins : Begins first chain
  pub follows : Follows step chain
  pub ends : Ends last chain

-- a list of distinct objects that are exactly the members of a block, from the one whose handle is its first to the one whose handle is its last, each followed by what follows it; without ends there are no members
abbrev pub HasObjectChainBetween : List ObjectValue → ObjectValue → Option EndHandles → Type 0
HasObjectChainBetween objects header None = (x : ObjectValue) → Contains objects x → is_member (spaces objects) header x ≡ false
HasObjectChainBetween objects header (Some ends) =
    (chain : List ObjectValue) × IsChainOf objects (next_object objects) (is_member (spaces objects) header) (λ x. handle_of x == ends.first) (λ x. handle_of x == ends.last) chain

abbrev pub HasObjectChain : List ObjectValue → ObjectValue → Type 0
HasObjectChain objects header = HasObjectChainBetween objects header (ends_of header)

-- among objects with distinct handles, an object has an owner path exactly where a list of objects is one
abbrev pub PathsAreOfObjects : Type 0
PathsAreOfObjects = (objects : List ObjectValue) (x : ObjectValue) → AreDistinct (handles_of objects) → Contains objects x → HasOwnerPath objects x ↔ HasObjectPath objects x

-- and the members of a block stand in a chain exactly where a list of objects is one
abbrev pub ChainsAreOfObjects : Type 0
ChainsAreOfObjects = (objects : List ObjectValue) (header : ObjectValue) → AreDistinct (handles_of objects) → HasMemberChain objects header ↔ HasObjectChain objects header

-- handles that ascend are distinct
abbrev pub AscendingAreDistinct : Type 0
AscendingAreDistinct = (handles : List ℕ) → Ascend handles → AreDistinct handles
