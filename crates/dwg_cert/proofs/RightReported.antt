-- What the tests of one object say, in a drawing whose handles ascend: its rank and its place are right, and its references hold together.
use Rattle.std.proofs.Common.{◌≡◌, sym, refl, ap, ◌∙◌, subst, ⊎_elim, arith}
use Rattle.std.proofs.lemmas.Bool.{cases_Bool, and_parts, and_from, cond-true, cond-false, both_ways, false_from_ne_true}
use Rattle.std.proofs.lemmas.Bool.Decides.{Decides-eqb, Decides-ltb, Decides-or}
use Rattle.std.specs.Prelude.{◌==◌, ◌||◌, ◌&&◌, ◌+◌, ◌-◌, ◌<◌, ◌⊎◌, ◌↔◌, ℕ, zero, suc, Bool, true, false, not, nat_lt, List, [], ◌∷◌, length, Option, Some, None, is_some, IsTrue, Contains}
use Rattle.std.specs.List.{list_all}
use Rattle.std.specs.Option.{option_map_or}
use Rattle.dwg_cert.specs.Accepts.{handles_in, rank_at, place_at, members_of, IsOwnedAt, IsMemberAt}
use Rattle.dwg_cert.specs.AcceptTests.{is_rank, is_ranked, is_member_at, is_place, is_placed, is_placed_in, is_in_place, is_begun, is_resolved, holds_together, is_right}
use Rattle.dwg_cert.specs.declared.entry.Entry.{Entry}
use Rattle.dwg_cert.proofs.Entries.{map_or_decided, at_decided, object_of_rank, block_found, members_are}
use Rattle.dwg_graph.specs.Graph.{object_at, is_typed, is_raw, is_header, is_root, is_member, EndHandles, ends_of}
use Rattle.dwg_graph.specs.Owners.{spaces, owner_of, next_of}
use Rattle.dwg_graph.specs.Places.{Ascend, handles_of}
use Rattle.dwg_graph.specs.Slots.{slots}
use Rattle.dwg_graph.specs.Sound.{Resolves, IsExempt, IsClaimed}
use Rattle.dwg_graph.specs.Tests.{is_met, is_exempt, is_claimed}
use Rattle.dwg_graph.specs.declared.slot.Slot.{Slot}
use Rattle.dwg_graph.proofs.ObjectPaths.{stands_found}
use Rattle.dwg_graph.proofs.Tests.{object_found, met_decided, exempt_decided, claimed_decided}
use Rattle.dwg_kinds.specs.declared.field.Field.TheVariants as fields
use Rattle.dwg_object.specs.Objects.{ObjectValue, handle_of}
use Rattle.dwg_chains.specs.Tables.{is_at}
use Rattle.dwg_chains.proofs.TestLemmas.{each_of_all, all_of_each}

-- one test implies another
pub implied : (a b : Bool) → IsTrue (not a || b) ↔ (IsTrue a → IsTrue b)
implied true b = (λ is if_so. is, λ so. so refl)
implied false b = (λ is if_so. absurd (cc if_so), λ so. refl)

-- a test fails exactly where its contrary passes
not_decided : (a : Bool) → IsTrue (not a) ↔ (a ≡ false)
not_decided true = (λ is. absurd (cc is), λ is. absurd (cc is))
not_decided false = (λ is. refl, λ is. refl)

-- a list is empty exactly where it has no length
length_decided : {A : Type 0} (xs : List A) → IsTrue (length xs == 0) ↔ (xs ≡ [])
length_decided [] = (λ is. refl, λ is. refl)
length_decided (x ∷ xs) = (λ is. absurd (omega (arith, (Decides-eqb (length (x ∷ xs)) 0).0 is)), λ is. absurd (cc is))

-- a rank that an object may have is right: a Typed one has one, one of rank 0 is a root, and one of any other is owned by one of the rank before
pub record IsRanked (objects : List ObjectValue) (cert : List Entry) (x : ObjectValue) (at : Option ℕ) : Type 0 where
  pub typed : IsTrue (is_typed x) → IsTrue (is_some at)
  pub root : at ≡ Some 0 → IsTrue (is_root (spaces objects) x)
  pub owned : (rank : ℕ) → at ≡ Some (suc rank) → IsOwnedAt objects cert x rank

-- the test of an owner's rank says whether an object is owned so
owned_reported : (objects : List ObjectValue) (cert : List Entry) (x : ObjectValue) (rank : ℕ) → handles_in cert ≡ handles_of objects
    → IsTrue (not (is_raw x) && is_at (rank_at cert (owner_of (spaces objects) x)) rank) ↔ IsOwnedAt objects cert x rank
owned_reported objects cert x rank are =
    let owner : ℕ = owner_of (spaces objects) x in (
      λ is. let parts = and_parts (not (is_raw x)) (is_at (rank_at cert owner) rank) is in
          let ranked = (at_decided (rank_at cert owner) rank).0 parts.1 in
          let found = object_of_rank objects cert owner rank are ranked in
          record { form = (not_decided (is_raw x)).0 parts.0; owner = found.0; stands = found.1; has = found.2; ranked = subst (λ (h : ℕ). rank_at cert h ≡ Some rank) (sym found.2) ranked },
      λ owned. and_from (not (is_raw x)) (is_at (rank_at cert owner) rank) ((not_decided (is_raw x)).1 owned.form)
          ((at_decided (rank_at cert owner) rank).1 (subst (λ (h : ℕ). rank_at cert h ≡ Some rank) owned.has owned.ranked)),
    )

-- the test of a rank that isn't 0 asks for the rank before
rank_after : (objects : List ObjectValue) (cert : List Entry) (x : ObjectValue) (rank : ℕ)
    → is_rank objects cert x (suc rank) ≡ (not (is_raw x) && is_at (rank_at cert (owner_of (spaces objects) x)) rank)
unfolding is_rank
rank_after objects cert x rank =
    let owned : ℕ → Bool = λ before. not (is_raw x) && is_at (rank_at cert (owner_of (spaces objects) x)) before in
    let other : (suc rank == 0) ≡ false = false_from_ne_true (suc rank == 0) (λ is. absurd (omega (arith, (Decides-eqb (suc rank) 0).0 is))) in
    cond-false (suc rank == 0) (is_root (spaces objects) x) (owned (suc rank - 1)) other ∙ ap owned (omega arith)

-- the test of a rank that there may not be says whether it is right
rank_reported : (objects : List ObjectValue) (cert : List Entry) (x : ObjectValue) (at : Option ℕ) → handles_in cert ≡ handles_of objects
    → IsTrue (option_map_or (is_rank objects cert x) at (not (is_typed x))) ↔ IsRanked objects cert x at
unfolding is_rank
rank_reported objects cert x None are = (
  λ is. record {
    typed = λ typed. absurd (both_ways (is_typed x) ((not_decided (is_typed x)).0 is) typed);
    root = λ none. absurd (cc none);
    owned = λ rank none. absurd (cc none);
  },
  λ ranked. (not_decided (is_typed x)).1 (false_from_ne_true (is_typed x) (λ typed. cc (ranked.typed typed))),
)
rank_reported objects cert x (Some zero) are = (
  λ is. record { typed = λ typed. refl; root = λ none. is; owned = λ rank other. absurd (cc other) },
  λ ranked. ranked.root refl,
)
rank_reported objects cert x (Some (suc rank)) are = (
  λ is. record {
    typed = λ typed. refl;
    root = λ none. absurd (cc none);
    owned = λ other same. subst (λ (r : ℕ). IsOwnedAt objects cert x r) (cc same) ((owned_reported objects cert x rank are).0 (sym (rank_after objects cert x rank) ∙ is));
  },
  λ ranked. rank_after objects cert x rank ∙ (owned_reported objects cert x rank are).1 (ranked.owned rank refl),
)

-- the test of a member's place says whether the handle is that of a member that has it
pub member_at_reported : (objects : List ObjectValue) (cert : List Entry) (block : ObjectValue) (handle place : ℕ) → Ascend (handles_of objects)
    → IsTrue (is_member_at objects cert block handle place) ↔ IsMemberAt objects cert block handle place
unfolding is_member_at
member_at_reported objects cert block handle place ascend =
    let reports = map_or_decided (is_member (spaces objects) block) (λ x. IsTrue (is_member (spaces objects) block x)) (object_at objects handle) (λ x. (λ so. so, λ so. so)) in
    let there : Bool = option_map_or (is_member (spaces objects) block) (object_at objects handle) false in (
      λ is. let parts = and_parts there (is_at (place_at cert handle) place) is in
          let member = reports.0 parts.0 in
          let stands = stands_found objects handle member.0 member.1 in
          record { member = member.0; stands = (members_are objects block member.0).0 (stands.0, member.2); has = stands.1; placed = (at_decided (place_at cert handle) place).0 parts.1 },
      λ has. let stands = (members_are objects block has.member).1 has.stands in
          and_from there (is_at (place_at cert handle) place)
          (reports.1 (has.member, (object_found objects handle has.member ascend).1 (stands.0, has.has), stands.1))
          ((at_decided (place_at cert handle) place).1 has.placed),
    )

-- a place is right of a member of a block: it is below the count of members, and what follows is the member of the place after, or the member is the last
pub record IsPlace (objects : List ObjectValue) (cert : List Entry) (block : ObjectValue) (ends : EndHandles) (x : ObjectValue) (place : ℕ) : Type 0 where
  pub within : place < length (members_of objects block)
  pub next : suc place < length (members_of objects block) → IsMemberAt objects cert block (next_of x) (suc place)
  pub last : suc place ≡ length (members_of objects block) → handle_of x ≡ ends.last

-- the test of a place says whether it is right
place_reported : (objects : List ObjectValue) (cert : List Entry) (block : ObjectValue) (ends : EndHandles) (x : ObjectValue) (place : ℕ) → Ascend (handles_of objects)
    → IsTrue (is_place objects cert block ends x place) ↔ IsPlace objects cert block ends x place
unfolding is_place
place_reported objects cert block ends x place ascend =
    let count : ℕ = length (members_of objects block) in
    let goes_on : Bool = is_member_at objects cert block (next_of x) (place + 1) in
    let stops : Bool = (place + 1 == count) && (handle_of x == ends.last) in
    let on = member_at_reported objects cert block (next_of x) (place + 1) ascend in ⊎_elim
    (λ (less : nat_lt (place + 1) count ≡ true).
    let under : place + 1 < count = (Decides-ltb (place + 1) count).0 less in (
      λ is. record {
        within = omega (arith, under);
        next = λ further. subst (λ (n : ℕ). IsMemberAt objects cert block (next_of x) n) (omega arith) (on.0 (sym (cond-true (nat_lt (place + 1) count) goes_on stops less) ∙ is));
        last = λ end. absurd (omega (arith, under, end));
      },
      λ right. cond-true (nat_lt (place + 1) count) goes_on stops less ∙ on.1 (subst (λ (n : ℕ). IsMemberAt objects cert block (next_of x) n) (omega arith) (right.next (omega (arith, under)))),
    ))
    (λ (most : nat_lt (place + 1) count ≡ false).
    let over : place + 1 < count → ⊥ = λ less. both_ways (nat_lt (place + 1) count) most ((Decides-ltb (place + 1) count).1 less) in (
      λ is. let parts = and_parts (place + 1 == count) (handle_of x == ends.last) (sym (cond-false (nat_lt (place + 1) count) goes_on stops most) ∙ is) in
          let end : place + 1 ≡ count = (Decides-eqb (place + 1) count).0 parts.0 in
          record { within = omega (arith, end); next = λ further. absurd (omega (arith, end, further)); last = λ so. (Decides-eqb (handle_of x) ends.last).0 parts.1 },
      λ right. let end : place + 1 ≡ count = omega (arith, over, right.within) in
          cond-false (nat_lt (place + 1) count) goes_on stops most
          ∙ and_from (place + 1 == count) (handle_of x == ends.last) ((Decides-eqb (place + 1) count).1 end) ((Decides-eqb (handle_of x) ends.last).1 (right.last (omega (arith, end)))),
    ))
    (cases_Bool (nat_lt (place + 1) count))

-- a member has a place between the ends of its block that is right
abbrev pub IsPlacedBetween : List ObjectValue → List Entry → ObjectValue → ObjectValue → EndHandles → Type 0
IsPlacedBetween objects cert x block ends = (place : ℕ) × (place_at cert (handle_of x) ≡ Some place) × IsPlace objects cert block ends x place

-- and the block has ends
abbrev pub IsPlaced : List ObjectValue → List Entry → ObjectValue → ObjectValue → Type 0
IsPlaced objects cert x block = (ends : EndHandles) × (ends_of block ≡ Some ends) × IsPlacedBetween objects cert x block ends

-- the test of a member says whether it has such a place
placed_reported : (objects : List ObjectValue) (cert : List Entry) (x block : ObjectValue) → Ascend (handles_of objects) → IsTrue (is_placed objects cert x block) ↔ IsPlaced objects cert x block
unfolding is_placed
placed_reported objects cert x block ascend =
    map_or_decided (λ ends. option_map_or (is_place objects cert block ends x) (place_at cert (handle_of x)) false) (IsPlacedBetween objects cert x block) (ends_of block)
    (λ ends. map_or_decided (is_place objects cert block ends x) (IsPlace objects cert block ends x) (place_at cert (handle_of x)) (λ place. place_reported objects cert block ends x place ascend))

-- in each block of which an object is a member it has such a place
abbrev pub IsInPlace : List ObjectValue → List Entry → ObjectValue → Type 0
IsInPlace objects cert x = (block : ObjectValue) → Contains objects block → IsTrue (is_member (spaces objects) block x) → IsPlaced objects cert x block

-- the test of an object by its owner says whether it is in place
in_place_reported : (objects : List ObjectValue) (cert : List Entry) (x : ObjectValue) → Ascend (handles_of objects) → IsTrue (is_in_place objects cert x) ↔ IsInPlace objects cert x
unfolding is_in_place
in_place_reported objects cert x ascend = (
  λ is block stands member.
      let of_owner : is_placed_in objects cert x block ≡ true = subst (λ (found : Option ObjectValue). option_map_or (is_placed_in objects cert x) found true ≡ true) (block_found objects block x ascend stands member) is in
      (placed_reported objects cert x block ascend).0 ((implied (is_member (spaces objects) block x) (is_placed objects cert x block)).0 of_owner member),
  λ are. by_owner are (object_at objects (owner_of (spaces objects) x)) refl,
)
  where
    by_owner : IsInPlace objects cert x → (found : Option ObjectValue) → object_at objects (owner_of (spaces objects) x) ≡ found → option_map_or (is_placed_in objects cert x) found true ≡ true
    by_owner are None is = refl
    by_owner are (Some block) is = (implied (is_member (spaces objects) block x) (is_placed objects cert x block)).1
        (λ member. (placed_reported objects cert x block ascend).1 (are block (stands_found objects (owner_of (spaces objects) x) block is).0 member))

-- the members of a block begin at its first, or it has neither ends nor members
abbrev pub IsBegun : List ObjectValue → List Entry → ObjectValue → Option EndHandles → Type 0
IsBegun objects cert block None = members_of objects block ≡ []
IsBegun objects cert block (Some ends) = IsMemberAt objects cert block ends.first 0

-- the test of ends that a block may have says whether it begins so
ends_reported : (objects : List ObjectValue) (cert : List Entry) (block : ObjectValue) (ends : Option EndHandles) → Ascend (handles_of objects)
    → IsTrue (option_map_or (λ (those : EndHandles). is_member_at objects cert block those.first 0) ends (length (members_of objects block) == 0)) ↔ IsBegun objects cert block ends
ends_reported objects cert block None ascend = length_decided (members_of objects block)
ends_reported objects cert block (Some ends) ascend = member_at_reported objects cert block ends.first 0 ascend

-- the test of a block says whether it begins so
begun_reported : (objects : List ObjectValue) (cert : List Entry) (block : ObjectValue) → Ascend (handles_of objects) → IsTrue (is_begun objects cert block) ↔ IsBegun objects cert block (ends_of block)
unfolding is_begun
begun_reported objects cert block ascend = ends_reported objects cert block (ends_of block) ascend

-- the test of an object's references says whether each meets its need
resolved_reported : (objects : List ObjectValue) (x : ObjectValue) → Ascend (handles_of objects) → IsTrue (is_resolved objects x) ↔ Resolves objects x
unfolding is_resolved
resolved_reported objects x ascend =
    let owner : Slot = record { field = fields.Owner; position = 0; target = owner_of (spaces objects) x } in (
      λ is. let parts = and_parts (is_met objects x owner) (list_all (is_met objects x) (slots x)) is in
          record { owner = (met_decided objects x owner ascend).0 parts.0; slots = λ slot inside. (met_decided objects x slot ascend).0 (each_of_all (is_met objects x) (slots x) slot parts.1 inside) },
      λ resolves. and_from (is_met objects x owner) (list_all (is_met objects x) (slots x)) ((met_decided objects x owner ascend).1 resolves.owner)
          (all_of_each (is_met objects x) (slots x) (λ slot inside. (met_decided objects x slot ascend).1 (resolves.slots slot inside))),
    )

-- the references of an object hold together, those of a Typed one, and of a block beside that its members begin
pub record HoldTogether (objects : List ObjectValue) (cert : List Entry) (x : ObjectValue) : Type 0 where
  pub resolve : Resolves objects x
  pub claim : IsExempt objects x ⊎ IsClaimed objects x
  pub begun : IsTrue (is_header x) → IsBegun objects cert x (ends_of x)

-- the test of an object's references says whether they do
held_reported : (objects : List ObjectValue) (cert : List Entry) (x : ObjectValue) → Ascend (handles_of objects) → IsTrue (holds_together objects cert x) ↔ (IsTrue (is_typed x) → HoldTogether objects cert x)
unfolding holds_together
held_reported objects cert x ascend =
    let known : Bool = is_exempt objects (spaces objects) x || is_claimed objects (spaces objects) x in
    let begins : Bool = not (is_header x) || is_begun objects cert x in
    let claim = Decides-or (is_exempt objects (spaces objects) x) (is_claimed objects (spaces objects) x) (exempt_decided objects x ascend) (claimed_decided objects x ascend) in (
      λ is typed. let parts = and_parts (is_resolved objects x) (known && begins) ((implied (is_typed x) (is_resolved objects x && (known && begins))).0 is typed) in
          let others = and_parts known begins parts.1 in
          record {
            resolve = (resolved_reported objects x ascend).0 parts.0;
            claim = claim.0 others.0;
            begun = λ header. (begun_reported objects cert x ascend).0 ((implied (is_header x) (is_begun objects cert x)).0 others.1 header);
          },
      λ hold. (implied (is_typed x) (is_resolved objects x && (known && begins))).1 (λ typed.
          and_from (is_resolved objects x) (known && begins) ((resolved_reported objects x ascend).1 (hold typed).resolve)
          (and_from known begins (claim.1 (hold typed).claim)
          ((implied (is_header x) (is_begun objects cert x)).1 (λ header. (begun_reported objects cert x ascend).1 ((hold typed).begun header))))),
    )

-- what a certificate says of an object is right, and its references hold together
pub record IsRight (objects : List ObjectValue) (cert : List Entry) (x : ObjectValue) : Type 0 where
  pub ranked : IsRanked objects cert x (rank_at cert (handle_of x))
  pub placed : IsInPlace objects cert x
  pub held : IsTrue (is_typed x) → HoldTogether objects cert x

-- the test of an object says whether that is so
pub right_reported : (objects : List ObjectValue) (cert : List Entry) (x : ObjectValue) → Ascend (handles_of objects) → handles_in cert ≡ handles_of objects → IsTrue (is_right objects cert x) ↔ IsRight objects cert x
unfolding is_right is_ranked
right_reported objects cert x ascend are =
    let ranked = rank_reported objects cert x (rank_at cert (handle_of x)) are in (
      λ is. let parts = and_parts (is_ranked objects cert x) (is_in_place objects cert x && holds_together objects cert x) is in
          let others = and_parts (is_in_place objects cert x) (holds_together objects cert x) parts.1 in
          record { ranked = ranked.0 parts.0; placed = (in_place_reported objects cert x ascend).0 others.0; held = (held_reported objects cert x ascend).0 others.1 },
      λ right. and_from (is_ranked objects cert x) (is_in_place objects cert x && holds_together objects cert x) (ranked.1 right.ranked)
          (and_from (is_in_place objects cert x) (holds_together objects cert x) ((in_place_reported objects cert x ascend).1 right.placed) ((held_reported objects cert x ascend).1 right.held)),
    )
