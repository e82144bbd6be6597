-- What an accepted certificate is of is sound: its ranks fall along owners to roots, and its places rise along the members of each block.
use Rattle.std.proofs.Common.{◌≡◌, sym, refl, ap, ◌∙◌, subst, ⊎_elim, arith}
use Rattle.std.proofs.lemmas.Bool.{false_from_ne_true}
use Rattle.std.proofs.lemmas.Bool.Decides.{Decides-eqb}
use Rattle.std.proofs.lemmas.List.{length-map}
use Rattle.std.specs.Prelude.{◌==◌, ℕ, suc, List, [], length, map, Option, Some, None, IsTrue, Contains}
use Rattle.dwg_cert.specs.Accepts.{rank_at, place_at, members_of, IsMemberAt, AreInPlace, AreInPlaceBetween, Accepts}
use Rattle.dwg_cert.specs.Certified.{AcceptedIsSound}
use Rattle.dwg_cert.specs.declared.entry.Entry.{Entry}
use Rattle.dwg_cert.proofs.Entries.{empty_or_not, some_there, contained_in_map, object_of_rank, step_leads, members_are, members_passed}
use Rattle.dwg_graph.specs.Graph.{object_at, is_typed, is_header, is_root, owner_step, next_step, root_at, member_at, EndHandles, ends_of, HasOwnerPath, HasChainBetween, HasMemberChain}
use Rattle.dwg_graph.specs.Owners.{spaces, owner_of, next_of}
use Rattle.dwg_graph.specs.Places.{Ascend, handles_of}
use Rattle.dwg_graph.proofs.ListLemmas.{contains_map, none_of_empty}
use Rattle.dwg_graph.proofs.Tests.{object_found}
use Rattle.dwg_object.specs.Objects.{ObjectValue, handle_of}
use Rattle.dwg_chains.specs.Numbered.{FallToGoals, RiseAlong}
use Rattle.dwg_chains.proofs.Numbering.{path_of_number, chain_of_numbers}

-- the handle of a root passes the test for roots
root_found : (objects : List ObjectValue) (handle : ℕ) (x : ObjectValue) → object_at objects handle ≡ Some x → IsTrue (is_root (spaces objects) x) → IsTrue (root_at objects (spaces objects) handle)
unfolding root_at
root_found objects handle x found root = rw found root

-- the owner of an object is the next on its way
owner_next : (objects : List ObjectValue) (handle : ℕ) (x owner : ObjectValue) → object_at objects handle ≡ Some x → object_at objects (owner_of (spaces objects) x) ≡ Some owner
    → owner_step objects (spaces objects) handle ≡ Some (owner_of (spaces objects) x)
unfolding owner_step
owner_next objects handle x owner found next = step_leads objects (owner_of (spaces objects)) handle x owner found next

-- what follows an object in a block is the next in a chain
block_next : (objects : List ObjectValue) (handle : ℕ) (x after : ObjectValue) → object_at objects handle ≡ Some x → object_at objects (next_of x) ≡ Some after → next_step objects handle ≡ Some (next_of x)
unfolding next_step
block_next objects handle x after found next = step_leads objects next_of handle x after found next

-- accepted ranks fall along owners to roots
pub ranks_fall_to_roots : (objects : List ObjectValue) (cert : List Entry) → Ascend (handles_of objects) → Accepts objects cert
    → FallToGoals (owner_step objects (spaces objects)) (root_at objects (spaces objects)) (rank_at cert)
ranks_fall_to_roots objects cert ascend is = record {
  ends = λ handle ranked. let x = object_of_rank objects cert handle 0 is.handles ranked in
      root_found objects handle x.0 ((object_found objects handle x.0 ascend).1 (x.1, x.2)) (is.root x.0 x.1 (subst (λ (h : ℕ). rank_at cert h ≡ Some 0) (sym x.2) ranked));
  falls = λ handle n ranked. let x = object_of_rank objects cert handle (suc n) is.handles ranked in
      let owned = is.owned x.0 n x.1 (subst (λ (h : ℕ). rank_at cert h ≡ Some (suc n)) (sym x.2) ranked) in
      let next = (object_found objects (owner_of (spaces objects) x.0) owned.owner ascend).1 (owned.stands, owned.has) in
      (handle_of owned.owner, owner_next objects handle x.0 owned.owner ((object_found objects handle x.0 ascend).1 (x.1, x.2)) next ∙ ap Some (sym owned.has), owned.ranked);
}

-- so the owners of each Typed object lead to a root
path_of_accepted : (objects : List ObjectValue) (cert : List Entry) → Ascend (handles_of objects) → Accepts objects cert → (x : ObjectValue) → Contains objects x → IsTrue (is_typed x) → HasOwnerPath objects x
path_of_accepted objects cert ascend is x inside typed =
    let ranked = some_there (rank_at cert (handle_of x)) (is.ranked x inside typed) in
    path_of_number (owner_step objects (spaces objects)) (root_at objects (spaces objects)) (rank_at cert) (ranks_fall_to_roots objects cert ascend is) (handle_of x) ranked.0 ranked.1

-- places that are right rise along the members of a block from one end to the other
pub places_rise_along : (objects : List ObjectValue) (cert : List Entry) (block : ObjectValue) (ends : EndHandles) → Ascend (handles_of objects) → AreInPlace objects cert block ends
    → RiseAlong (map handle_of (members_of objects block)) (next_step objects) (λ handle. handle == ends.first) (λ handle. handle == ends.last) (place_at cert)
places_rise_along objects cert block ends ascend are = record {
  begins = (ends.first, among ends.first 0 are.first, (Decides-eqb ends.first ends.first).1 refl, are.first.placed);
  small = λ handle inside. let x = contained_in_map handle_of members handle inside in
      let below = are.below x.0 x.1 in
      (below.0, subst (λ (h : ℕ). place_at cert h ≡ Some below.0) x.2 below.1, omega (arith, below.2, count));
  rises = λ handle place inside has less. let x = contained_in_map handle_of members handle inside in
      let next = are.next x.0 place x.1 (subst (λ (h : ℕ). place_at cert h ≡ Some place) (sym x.2) has) (omega (arith, less, count)) in
      (next_of x.0, block_next objects handle x.0 next.member (found x.0 handle x.1 x.2) (found next.member (next_of x.0) next.stands next.has), among (next_of x.0) (suc place) next, next.placed);
  ends = λ handle place inside has last. let x = contained_in_map handle_of members handle inside in
      (Decides-eqb handle ends.last).1 (sym x.2 ∙ are.last x.0 place x.1 (subst (λ (h : ℕ). place_at cert h ≡ Some place) (sym x.2) has) (omega (arith, last, count)));
}
  where
    members : List ObjectValue
    members = members_of objects block

    count : length (map handle_of members) ≡ length members
    count = length-map members handle_of

    among : (handle place : ℕ) → IsMemberAt objects cert block handle place → Contains (map handle_of members) handle
    among handle place is = subst (λ (h : ℕ). Contains (map handle_of members) h) is.has (contains_map handle_of members is.member is.stands)

    found : (x : ObjectValue) (handle : ℕ) → Contains members x → handle_of x ≡ handle → object_at objects handle ≡ Some x
    found x handle inside has = (object_found objects handle x ascend).1 (((members_are objects block x).1 inside).0, has)

-- so members that are in place stand in a chain
chain_of_placed : (objects : List ObjectValue) (cert : List Entry) (block : ObjectValue) (ends : Option EndHandles) → Ascend (handles_of objects) → AreInPlaceBetween objects cert block ends → HasChainBetween objects block ends
chain_of_placed objects cert block None ascend never = absurd never
chain_of_placed objects cert block (Some ends) ascend are =
    chain_of_numbers (λ one other. one == other) (map handle_of (members_of objects block)) (next_step objects) (member_at objects (spaces objects) block) (λ handle. handle == ends.first) (λ handle. handle == ends.last)
    (place_at cert) Decides-eqb (members_passed objects block ascend) (places_rise_along objects cert block ends ascend are)

-- without members no handle is that of one
none_passed : (objects : List ObjectValue) (block : ObjectValue) → Ascend (handles_of objects) → members_of objects block ≡ [] → HasChainBetween objects block None
none_passed objects block ascend none handle =
    false_from_ne_true (member_at objects (spaces objects) block handle) (λ is.
    none_of_empty (map handle_of (members_of objects block)) handle (ap (map handle_of) none) ((members_passed objects block ascend handle).0 is))

-- and the members of each Typed BLOCK HEADER stand in a chain
chain_of_accepted : (objects : List ObjectValue) (cert : List Entry) → Ascend (handles_of objects) → Accepts objects cert → (x : ObjectValue) → Contains objects x → IsTrue (is_header x) → HasMemberChain objects x
chain_of_accepted objects cert ascend is x inside header = ⊎_elim
    (λ none. subst (λ (ends : Option EndHandles). HasChainBetween objects x ends) (sym (is.empty x inside header none)) (none_passed objects x ascend none))
    (λ some. chain_of_placed objects cert x (ends_of x) ascend (is.chain x inside header some))
    (empty_or_not (members_of objects x))

pub accepted_is_sound : AcceptedIsSound
accepted_is_sound objects cert ascend is = record {
  needs = is.needs;
  chain = chain_of_accepted objects cert ascend is;
  path = path_of_accepted objects cert ascend is;
}
