-- The tests say whether a certificate is one of these objects: what is right of each of them is what is asked of all.
use Rattle.std.proofs.Common.{◌≡◌, sym, refl, ◌∙◌, subst, ⊎_elim}
use Rattle.std.proofs.lemmas.Bool.{and_parts, and_from}
use Rattle.std.proofs.lemmas.Bool.Decides.{Decides-eqb}
use Rattle.std.proofs.lemmas.Option.{same_Some}
use Rattle.std.specs.Prelude.{◌==◌, ◌&&◌, ◌≢◌, ℕ, Bool, List, [], length, Option, Some, None, IsTrue, Contains}
use Rattle.std.specs.List.{list_all}
use Rattle.dwg_cert.specs.Accepts.{handles_in, place_at, members_of, AreInPlaceBetween, Accepts}
use Rattle.dwg_cert.specs.AcceptTests.{are_handles, is_right, is_accepted, AcceptanceIsDecided}
use Rattle.dwg_cert.specs.declared.entry.Entry.{Entry}
use Rattle.dwg_cert.proofs.Entries.{empty_or_not, handles_are, of_block, members_are}
use Rattle.dwg_cert.proofs.RightReported.{IsPlace, IsPlacedBetween, IsPlaced, IsBegun, IsRight, right_reported}
use Rattle.dwg_graph.specs.Graph.{is_typed, is_header, EndHandles, ends_of}
use Rattle.dwg_graph.specs.Owners.{block_controls, spaces}
use Rattle.dwg_graph.specs.Places.{handles_of}
use Rattle.dwg_graph.proofs.ListLemmas.{none_of_empty}
use Rattle.dwg_object.specs.Objects.{ObjectValue, TypedValue, PlainValue, RawValue, handle_of}
use Rattle.dwg_chains.proofs.TestLemmas.{each_of_all, all_of_each}

-- a Typed BLOCK HEADER is Typed
header_typed : (x : ObjectValue) → IsTrue (is_header x) → IsTrue (is_typed x)
header_typed (TypedValue number handle common body) header = refl
header_typed (PlainValue number handle common rest refs) header = header
header_typed (RawValue number handle bytes) header = header

-- a block that begins has no ends where it has no members
no_ends : (objects : List ObjectValue) (cert : List Entry) (block : ObjectValue) (ends : Option EndHandles) → IsBegun objects cert block ends → members_of objects block ≡ [] → ends ≡ None
no_ends objects cert block None begun none = refl
no_ends objects cert block (Some ends) begun none = absurd (none_of_empty (members_of objects block) begun.member none begun.stands)

-- the place that a member has is right between the ends that its block has
place_between : (objects : List ObjectValue) (cert : List Entry) (x block : ObjectValue) (ends : EndHandles) → ends_of block ≡ Some ends → IsPlaced objects cert x block → IsPlacedBetween objects cert x block ends
place_between objects cert x block ends known placed =
    subst (λ (those : EndHandles). IsPlacedBetween objects cert x block those) (same_Some placed.0 ends (sym placed.1 ∙ known)) placed.2

-- the one place that it has
place_of_member : (objects : List ObjectValue) (cert : List Entry) (x block : ObjectValue) (ends : EndHandles) (place : ℕ) → ends_of block ≡ Some ends → IsPlaced objects cert x block → place_at cert (handle_of x) ≡ Some place
    → IsPlace objects cert block ends x place
place_of_member objects cert x block ends place known placed has =
    let at = place_between objects cert x block ends known placed in
    subst (λ (n : ℕ). IsPlace objects cert block ends x n) (same_Some at.0 place (sym at.1 ∙ has)) at.2

-- members whose places are right are in place, where their block begins
all_in_place : (objects : List ObjectValue) (cert : List Entry) (block : ObjectValue) (ends : Option EndHandles) → ends_of block ≡ ends → IsBegun objects cert block ends → members_of objects block ≢ []
    → ((x : ObjectValue) → Contains (members_of objects block) x → IsPlaced objects cert x block) → AreInPlaceBetween objects cert block ends
all_in_place objects cert block None known begun some each = absurd (some begun)
all_in_place objects cert block (Some ends) known begun some each = record {
  first = begun;
  below = λ x inside. let at = place_between objects cert x block ends known (each x inside) in (at.0, at.1, at.2.within);
  next = λ x place inside has less. (place_of_member objects cert x block ends place known (each x inside) has).next less;
  last = λ x place inside has end. (place_of_member objects cert x block ends place known (each x inside) has).last end;
}

-- a member of a block whose members are in place has a place that is right
each_in_place : (objects : List ObjectValue) (cert : List Entry) (x block : ObjectValue) (ends : Option EndHandles) → ends_of block ≡ ends → Contains (members_of objects block) x → AreInPlaceBetween objects cert block ends
    → IsPlaced objects cert x block
each_in_place objects cert x block None known inside never = absurd never
each_in_place objects cert x block (Some ends) known inside are =
    let below = are.below x inside in
    (ends, known, (below.0, below.1, record { within = below.2; next = λ less. are.next x below.0 inside below.1 less; last = λ end. are.last x below.0 inside below.1 end }))

-- a block whose members are in place begins
begun_in_place : (objects : List ObjectValue) (cert : List Entry) (block : ObjectValue) (ends : Option EndHandles) → AreInPlaceBetween objects cert block ends → IsBegun objects cert block ends
begun_in_place objects cert block None never = absurd never
begun_in_place objects cert block (Some ends) are = are.first

-- a certificate is accepted, if what it says of each object is right
accepts_each : (objects : List ObjectValue) (cert : List Entry) → handles_in cert ≡ handles_of objects → length (block_controls objects) ≡ 1 → ((x : ObjectValue) → Contains objects x → IsRight objects cert x) → Accepts objects cert
accepts_each objects cert are control each = record {
  handles = are;
  needs = record {
    control = control;
    resolve = λ x inside typed. ((each x inside).held typed).resolve;
    claim = λ x inside typed. ((each x inside).held typed).claim;
  };
  ranked = λ x inside typed. (each x inside).ranked.typed typed;
  root = λ x inside none. (each x inside).ranked.root none;
  owned = λ x rank inside is. (each x inside).ranked.owned rank is;
  empty = λ x inside header none. no_ends objects cert x (ends_of x) (((each x inside).held (header_typed x header)).begun header) none;
  chain = λ x inside header some. all_in_place objects cert x (ends_of x) refl (((each x inside).held (header_typed x header)).begun header) some
      (λ member among. let stands = (members_are objects x member).1 among in (each member stands.0).placed x inside stands.1);
}

-- what an accepted certificate says of each object is right
each_accepted : (objects : List ObjectValue) (cert : List Entry) → Accepts objects cert → (x : ObjectValue) → Contains objects x → IsRight objects cert x
each_accepted objects cert is x inside = record {
  ranked = record { typed = is.ranked x inside; root = is.root x inside; owned = λ rank ranked. is.owned x rank inside ranked };
  placed = λ block stands member. let among = (members_are objects block x).0 (inside, member) in
      each_in_place objects cert x block (ends_of block) refl among
      (is.chain block stands (of_block (spaces objects) block x member).header (λ none. none_of_empty (members_of objects block) x none among));
  held = λ typed. record {
    resolve = is.needs.resolve x inside typed;
    claim = is.needs.claim x inside typed;
    begun = λ header. ⊎_elim
        (λ none. subst (λ (ends : Option EndHandles). IsBegun objects cert x ends) (sym (is.empty x inside header none)) none)
        (λ some. begun_in_place objects cert x (ends_of x) (is.chain x inside header some))
        (empty_or_not (members_of objects x));
  };
}

pub acceptance_is_reported : AcceptanceIsDecided
unfolding is_accepted
acceptance_is_reported objects cert ascend =
    let sole : Bool = length (block_controls objects) == 1 in
    let all : Bool = list_all (is_right objects cert) objects in (
      λ is. let parts = and_parts (are_handles cert objects) (sole && all) is in
          let others = and_parts sole all parts.1 in
          let are = (handles_are cert objects).0 parts.0 in
          accepts_each objects cert are ((Decides-eqb (length (block_controls objects)) 1).0 others.0)
          (λ x inside. (right_reported objects cert x ascend are).0 (each_of_all (is_right objects cert) objects x others.1 inside)),
      λ is. and_from (are_handles cert objects) (sole && all) ((handles_are cert objects).1 is.handles)
          (and_from sole all ((Decides-eqb (length (block_controls objects)) 1).1 is.needs.control)
          (all_of_each (is_right objects cert) objects (λ x inside. (right_reported objects cert x ascend is.handles).1 (each_accepted objects cert is x inside)))),
    )
