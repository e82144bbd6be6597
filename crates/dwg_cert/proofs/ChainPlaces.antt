-- The place of an object of a sound drawing is the one in the chain of a block's members.
use Rattle.std.proofs.Common.{◌≡◌, sym, ap, ◌∙◌, subst, refl, arith}
use Rattle.std.proofs.lemmas.Bool.{false_from_ne_true}
use Rattle.std.proofs.lemmas.Bool.Decides.{Decides-eqb}
use Rattle.std.proofs.lemmas.List.{length-map}
use Rattle.std.proofs.lemmas.Option.{same_Some}
use Rattle.std.specs.Prelude.{◌==◌, ◌≤◌, ◌↔◌, ℕ, zero, suc, Bool, true, false, List, [], ◌∷◌, length, Option, Some, None, IsTrue, Contains, if◌then◌else◌}
use Rattle.std.specs.List.{slice_get}
use Rattle.std.specs.Option.{option_and_then, option_map, option_map_or}
use Rattle.dwg_cert.proofs.Entries.{of_block, block_found}
use Rattle.dwg_cert.specs.Certified.{between, place_between, place_in_block, place_of, StandsInChain}
use Rattle.dwg_graph.specs.Graph.{object_at, is_header, is_member, next_step, member_at, EndHandles, ends_of, HasChainBetween}
use Rattle.dwg_graph.specs.Owners.{spaces, owner_of}
use Rattle.dwg_graph.specs.Placed.{place_in}
use Rattle.dwg_graph.specs.Places.{Ascend, handles_of}
use Rattle.dwg_graph.specs.Sound.{IsSound}
use Rattle.dwg_graph.proofs.ObjectPaths.{stands_found}
use Rattle.dwg_graph.proofs.PlacedObjects.{at_place}
use Rattle.dwg_graph.proofs.Tests.{object_found, members_among}
use Rattle.dwg_object.specs.Objects.{ObjectValue, handle_of}
use Rattle.dwg_chains.specs.ChainTests.{PassesOnce}
use Rattle.dwg_chains.specs.Paths.{AreDistinct, IsChain}
use Rattle.dwg_chains.specs.Ways.{way}
use Rattle.dwg_chains.proofs.ChainLaws.{straight_of_chain}
use Rattle.dwg_chains.proofs.MemberLemmas.{distinct_at_most}
use Rattle.dwg_chains.proofs.Numbering.{contains_there}
use Rattle.dwg_chains.proofs.WayLemmas.{straight_is_found, option_then_found}

-- a list is a chain of a block's members from one of its ends to the other
abbrev pub IsChainOf : List ObjectValue → ObjectValue → EndHandles → List ℕ → Type 0
IsChainOf objects block ends chain = IsChain (next_step objects) (member_at objects (spaces objects) block) (λ handle. handle == ends.first) (λ handle. handle == ends.last) chain

-- at most one handle is that one
pub one_is_that : (handles : List ℕ) (that : ℕ) → PassesOnce handles (λ handle. handle == that)
one_is_that handles that x y inside also is too = (Decides-eqb x that).0 is ∙ sym ((Decides-eqb y that).0 too)

-- a chain of a block's members is what is found from one end of the block to the other
pub chain_is_found : (objects : List ObjectValue) (block : ObjectValue) (ends : EndHandles) (chain : List ℕ) → IsChainOf objects block ends chain → between objects ends ≡ Some chain
unfolding between
chain_is_found objects block ends [] is = absurd is.begins
chain_is_found objects block ends (x ∷ rest) is =
    let straight = straight_of_chain (next_step objects) (λ handle. handle == ends.last) x rest is.distinct is.follows is.ends (one_is_that (x ∷ rest) ends.last) in
    let few : length (x ∷ rest) ≤ length (handles_of objects) =
    distinct_at_most (x ∷ rest) (handles_of objects) is.distinct (λ handle along. members_among objects (spaces objects) block handle ((is.whole handle).1 along)) in
    let first : x ≡ ends.first = (Decides-eqb x ends.first).0 is.begins in
    subst (λ (handle : ℕ). way (next_step objects) (λ last. last == ends.last) (length objects) handle ≡ Some (x ∷ rest)) first
    (straight_is_found (next_step objects) (λ handle. handle == ends.last) (length objects) x rest straight (omega (arith, few, length-map objects handle_of)))

-- a block with ends has a chain of its members in a sound drawing
pub chain_of_block : (objects : List ObjectValue) (block : ObjectValue) (ends : EndHandles) → IsSound objects → Contains objects block → IsTrue (is_header block) → ends_of block ≡ Some ends
    → (chain : List ℕ) × IsChainOf objects block ends chain
chain_of_block objects block ends sound stands header known = subst (λ (those : Option EndHandles). HasChainBetween objects block those) known (sound.chain block stands header)

-- what stands at a place of a list of distinct handles is found there
pub found_at : (handles : List ℕ) (handle place : ℕ) → AreDistinct handles → slice_get handles place ≡ Some handle → place_in handles handle ≡ Some place
unfolding AreDistinct place_in
found_at [] handle place distinct stands = absurd (cc stands)
found_at (first ∷ more) handle zero distinct stands =
    let here : (first == handle) ≡ true = (Decides-eqb first handle).1 (same_Some first handle stands) in
    ap (λ (test : Bool). if test then Some 0 else option_map suc (place_in more handle)) here
found_at (first ∷ more) handle (suc place) distinct stands =
    let inside : Contains more handle = contains_there more place handle stands in
    let away : (first == handle) ≡ false =
    false_from_ne_true (first == handle) (λ is. distinct.0 (subst (λ (one : ℕ). Contains more one) (sym ((Decides-eqb first handle).0 is)) inside)) in
    ap (λ (test : Bool). if test then Some 0 else option_map suc (place_in more handle)) away ∙ ap (option_map suc) (found_at more handle place distinct.1 stands)

-- what is there only where a test passes and is there, is there, and the test passes
where_passed : {A : Type 0} (test : Bool) (found : Option A) (x : A) → (if test then found else None) ≡ Some x → (test ≡ true) × (found ≡ Some x)
where_passed true found x is = (refl, is)
where_passed false found x is = absurd (cc is)

-- what is found is one
one_found : {A : Type 0} (found : Option A) (x y : A) → found ≡ Some x → found ≡ Some y → x ≡ y
one_found found x y is also = same_Some x y (sym is ∙ also)

-- what is found between the ends of a member's block is a chain
stands_in_block : (objects : List ObjectValue) (x block : ObjectValue) (ends : EndHandles) (listed : List ℕ) (place : ℕ) → IsSound objects → Contains objects block → is_member (spaces objects) block x ≡ true → ends_of block ≡ Some ends
    → between objects ends ≡ Some listed → place_in listed (handle_of x) ≡ Some place → StandsInChain objects (handle_of x) place
stands_in_block objects x block ends listed place sound stands member known found placed =
    let header = (of_block (spaces objects) block x member).header in
    let chain = chain_of_block objects block ends sound stands header known in
    let same : listed ≡ chain.0 = one_found (between objects ends) listed chain.0 found (chain_is_found objects block ends chain.0 chain.1) in
    record {
      block = block;
      stands = stands;
      header = header;
      ends = ends;
      known = known;
      chain = chain.0;
      is = chain.1;
      there = subst (λ (handles : List ℕ). slice_get handles place ≡ Some (handle_of x)) same (at_place listed (handle_of x) place placed);
    }

-- an object that has a place stands there in a chain
stands_at_place : (objects : List ObjectValue) (x : ObjectValue) (place : ℕ) → IsSound objects → place_of objects x ≡ Some place → StandsInChain objects (handle_of x) place
unfolding place_of
stands_at_place objects x place sound is =
    let block = option_then_found (place_in_block objects x) (object_at objects (owner_of (spaces objects) x)) place is in
    let member = where_passed (is_member (spaces objects) block.0 x) (option_and_then (place_between objects (handle_of x)) (ends_of block.0)) place block.2 in
    let ends = option_then_found (place_between objects (handle_of x)) (ends_of block.0) place member.1 in
    let listed = option_then_found (λ (chain : List ℕ). place_in chain (handle_of x)) (between objects ends.0) place ends.2 in
    let stands = (stands_found objects (owner_of (spaces objects) x) block.0 block.1).0 in
    stands_in_block objects x block.0 ends.0 listed.0 place sound stands member.0 ends.1 listed.1 listed.2

-- a handle that stands in a chain of members of a block is a member's
member_in_chain : (objects : List ObjectValue) (block x : ObjectValue) (ends : EndHandles) (chain : List ℕ) (place : ℕ) → Ascend (handles_of objects) → Contains objects x → IsChainOf objects block ends chain
    → slice_get chain place ≡ Some (handle_of x) → is_member (spaces objects) block x ≡ true
unfolding member_at
member_in_chain objects block x ends chain place ascend inside is there =
    let found : object_at objects (handle_of x) ≡ Some x = (object_found objects (handle_of x) x ascend).1 (inside, refl) in
    let passes : member_at objects (spaces objects) block (handle_of x) ≡ true = (is.whole (handle_of x)).1 (contains_there chain place (handle_of x) there) in
    sym (ap (λ (one : Option ObjectValue). option_map_or (is_member (spaces objects) block) one false) found) ∙ passes

-- an object that stands in a chain has that place
place_where_stands : (objects : List ObjectValue) (x : ObjectValue) (place : ℕ) → Ascend (handles_of objects) → Contains objects x → StandsInChain objects (handle_of x) place → place_of objects x ≡ Some place
unfolding place_of
place_where_stands objects x place ascend inside stands =
    let member = member_in_chain objects stands.block x stands.ends stands.chain place ascend inside stands.is stands.there in
    let owner = block_found objects stands.block x ascend stands.stands member in
    ap (option_and_then (place_in_block objects x)) owner
    ∙ ap (λ (test : Bool). if test then option_and_then (place_between objects (handle_of x)) (ends_of stands.block) else None) member
    ∙ ap (option_and_then (place_between objects (handle_of x))) stands.known
    ∙ ap (option_and_then (λ (chain : List ℕ). place_in chain (handle_of x))) (chain_is_found objects stands.block stands.ends stands.chain stands.is)
    ∙ found_at stands.chain (handle_of x) place stands.is.distinct stands.there

-- in a sound drawing a place is the one in the chain of a block's members
pub places_are_in_chains : (objects : List ObjectValue) (x : ObjectValue) (place : ℕ) → Ascend (handles_of objects) → IsSound objects → Contains objects x
    → (place_of objects x ≡ Some place) ↔ StandsInChain objects (handle_of x) place
places_are_in_chains objects x place ascend sound inside = (
  λ is. stands_at_place objects x place sound is,
  λ stands. place_where_stands objects x place ascend inside stands,
)
