-- What the checker looks up, by places.
use Rattle.std.proofs.Common.{◌≡◌, refl, sym, ap, ◌∙◌, subst, ⊎_elim, ◌<◌, ◌+◌, ◌^◌, ℕ, zero, suc, Bool, true, false, List, [], ◌∷◌, length, drop, get_or, Option, Some, None, arith}
use Rattle.dwg_base.specs.declared.device.NoMemory.{NoMemory}
use Rattle.std.specs.Prelude.{◌↔◌, IfOk, IsTrue, Result, Ok, Err, ◌==◌, ◌&&◌, ◌||◌, ◌≤◌, not, if◌then◌else◌}
use Rattle.std.specs.List.{list_all, slice_get}
use Rattle.std.specs.Option.{option_and_then, option_map, option_map_or}
use Rattle.std.proofs.lemmas.Bool.{and_parts, cases_Bool}
use Rattle.std.proofs.lemmas.List.{drop_all, drop_more}
use Rattle.std.proofs.lemmas.List.Sums.{sum_by_more_le_part}
use Rattle.std.proofs.lemmas.Option.{get_or_from_slice_get, same_Some, slice_get-map, slice_get_within}
use Rattle.dwg_cert.proofs.Entries.{handles_are}
use Rattle.dwg_cert.proofs.RightReported.{implied}
use Rattle.dwg_cert.specs.AcceptTests.{AcceptanceIsDecided, are_handles, holds_together, is_accepted, is_begun, is_in_place, is_placed, is_placed_in, is_ranked, is_resolved, is_right}
use Rattle.dwg_cert.specs.Accepts.{Accepts, entry_at, handles_in}
use Rattle.dwg_cert.specs.Certified.{AcceptedIsSound}
use Rattle.dwg_cert.specs.Checked.{CanBeChecked, Checked, IsChecker, are_met, member_counts}
use Rattle.dwg_cert.specs.declared.entry.Entry.{Entry}
use Rattle.dwg_graph.specs.Claimed.{AreBothCounted, reference_count}
use Rattle.dwg_graph.specs.Graph.{is_header, is_member, is_typed, object_at}
use Rattle.dwg_graph.specs.Owners.{owner_of, spaces}
use Rattle.dwg_graph.specs.Placed.{home_at, home_place, owner_place, owner_table, place_in}
use Rattle.dwg_graph.specs.Places.{Ascend, handles_of}
use Rattle.dwg_graph.specs.Sound.{IsSound}
use Rattle.dwg_graph.specs.SlotLaws.{OwnersAreHeld}
use Rattle.dwg_graph.specs.Slots.{slots}
use Rattle.dwg_graph.specs.declared.claims.Claimed.{Claimed}
use Rattle.dwg_graph.specs.declared.owner.SpaceHandles.{SpaceHandles}
use Rattle.dwg_graph.specs.declared.slot.Slot.{Slot}
use Rattle.dwg_graph.specs.Tests.{is_claimed, is_exempt, is_met}
use Rattle.dwg_graph.proofs.PlacedObjects.{found_there, object_placed, placed_by_key}
use Rattle.dwg_kinds.specs.Needs.{has_field}
use Rattle.dwg_kinds.specs.declared.field.Field.TheVariants as fields
use Rattle.dwg_object.specs.Objects.{ObjectValue, TypedValue, PlainValue, RawValue, handle_of, kind_of}

-- the entry of a handle stands where the object does
pub entry_placed : (objects : List ObjectValue) (cert : List Entry) (handle : ℕ) (place : Option ℕ) → handles_in cert ≡ handles_of objects → place ≡ place_in (handles_of objects) handle
    → option_and_then (slice_get cert) place ≡ entry_at cert handle
unfolding entry_at
entry_placed objects cert handle place same at =
    ap (option_and_then (slice_get cert)) (at ∙ ap (λ (handles : List ℕ). place_in handles handle) (sym same)) ∙ placed_by_key (λ (entry : Entry). entry.handle) cert handle

-- what a place asks of an object, by the block that stands at its home
pub in_place_by_home : (objects : List ObjectValue) (cert : List Entry) (x : ObjectValue)
    → is_in_place objects cert x ≡ option_map_or (λ home. option_map_or (is_placed objects cert x) (slice_get objects home) true) (home_place objects (spaces objects) x) true
unfolding is_in_place
in_place_by_home objects cert x =
    ap (λ (owner : Option ObjectValue). option_map_or (is_placed_in objects cert x) owner true) (sym (object_placed objects (owner_of (spaces objects) x)))
    ∙ by_owner (owner_place objects (spaces objects) x)
  where
    placed_at : ℕ → Bool
    placed_at home = option_map_or (is_placed objects cert x) (slice_get objects home) true

    home_by : ℕ → Option ObjectValue → Option ℕ
    home_by place found = option_and_then (λ owner. if is_member (spaces objects) owner x then Some place else None) found

    by_test : (place : ℕ) (block : ObjectValue) → slice_get objects place ≡ Some block → (test : Bool) → is_member (spaces objects) block x ≡ test
        → (not test || is_placed objects cert x block) ≡ option_map_or placed_at (if test then Some place else None) true
    by_test place block stands true is = ap (λ (found : Option ObjectValue). option_map_or (is_placed objects cert x) found true) (sym stands)
    by_test place block stands false is = refl

    by_block : (place : ℕ) (found : Option ObjectValue) → slice_get objects place ≡ found → option_map_or (is_placed_in objects cert x) found true ≡ option_map_or placed_at (home_by place found) true
    by_block place None stands = refl
    by_block place (Some block) stands = by_test place block stands (is_member (spaces objects) block x) refl

    by_owner : (owner : Option ℕ) → option_map_or (is_placed_in objects cert x) (option_and_then (slice_get objects) owner) true
        ≡ option_map_or placed_at (option_and_then (home_at objects (spaces objects) x) owner) true
    by_owner None = refl
    by_owner (Some place) = by_block place (slice_get objects place) refl

-- an object has few slots where all have few
pub few_slots : (objects : List ObjectValue) (place : ℕ) (x : ObjectValue) → slice_get objects place ≡ Some x → reference_count objects < 2 ^ 58 → length (slots x) < 2 ^ 58
unfolding reference_count
few_slots objects place x stands few =
    let count : ObjectValue → ℕ = λ y. length (slots y) in
    let sum = sum_by_more_le_part count count objects place x (slice_get_within objects place x stands) (λ y. omega arith) in
    let same : length (slots (get_or objects place x)) ≡ length (slots x) = ap (λ (y : ObjectValue). length (slots y)) (get_or_from_slice_get objects place x x stands) in
    omega (arith, sum, same, few)

-- what is left of a list at a place begins with what stands there
pub left_from : {A : Type 0} (things : List A) (i : ℕ) (x : A) → slice_get things i ≡ Some x → drop i things ≡ x ∷ drop (i + 1) things
left_from {A} things i x stands =
    drop_more things i x (slice_get_within things i x stands) ∙ ap (λ (y : A). y ∷ drop (i + 1) things) (get_or_from_slice_get things i x x stands)

-- where one more passes, all pass exactly where all those after it do
pub all_further : {A : Type 0} (test : A → Bool) (things : List A) (i : ℕ) (x : A) (whole : Bool) → slice_get things i ≡ Some x → test x ≡ true → list_all test (drop i things) ≡ whole
    → list_all test (drop (i + 1) things) ≡ whole
all_further {A} test things i x whole stands passes so_far =
    ap (λ (b : Bool). b && list_all test (drop (i + 1) things)) (sym passes) ∙ ap (list_all test) (sym (left_from things i x stands)) ∙ so_far

-- where one fails, not all pass
pub all_fail : {A : Type 0} (test : A → Bool) (things : List A) (i : ℕ) (x : A) (whole : Bool) → slice_get things i ≡ Some x → test x ≡ false → list_all test (drop i things) ≡ whole → false ≡ whole
all_fail {A} test things i x whole stands fails so_far =
    ap (λ (b : Bool). b && list_all test (drop (i + 1) things)) (sym fails) ∙ ap (list_all test) (sym (left_from things i x stands)) ∙ so_far

-- what all of things pass, each does that stands at a place
pub passes_there : {A : Type 0} (test : A → Bool) (things : List A) (place : ℕ) (x : A) → list_all test things ≡ true → slice_get things place ≡ Some x → test x ≡ true
passes_there test [] place x all stands = absurd (cc stands)
passes_there {A} test (first ∷ more) zero x all stands = subst (λ (y : A). test y ≡ true) (same_Some first x stands) (and_parts (test first) (list_all test more) all).0
passes_there test (first ∷ more) (suc place) x all stands = passes_there test more place x (and_parts (test first) (list_all test more) all).1 stands

-- where not all pass one test, not all pass another that implies it
fails_by_weaker : {A : Type 0} (weak strong : A → Bool) (things : List A) → ((x : A) → strong x ≡ true → weak x ≡ true) → list_all weak things ≡ false → false ≡ list_all strong things
fails_by_weaker weak strong [] implies fails = sym fails
fails_by_weaker weak strong (x ∷ more) implies fails = go (fails_by_weaker weak strong more implies) (strong x) refl
  where
    go : (list_all weak more ≡ false → false ≡ list_all strong more) → (test : Bool) → strong x ≡ test → false ≡ (strong x && list_all strong more)
    go further false is = ap (λ (b : Bool). b && list_all strong more) (sym is)
    go further true is = further (sym (ap (λ (b : Bool). b && list_all weak more) (implies x is)) ∙ fails) ∙ ap (λ (b : Bool). b && list_all strong more) (sym is)

-- what isn't Typed has no slots
no_slots : (x : ObjectValue) → is_typed x ≡ false → slots x ≡ []
unfolding slots
no_slots (TypedValue number handle common body) other = absurd (cc other)
no_slots (PlainValue number handle common rest refs) other = refl
no_slots (RawValue number handle bytes) other = refl

-- the slots of a resolved object meet their needs
met_of_resolved : (objects : List ObjectValue) (x : ObjectValue) → is_resolved objects x ≡ true → are_met objects x ≡ true
unfolding is_resolved are_met
met_of_resolved objects x resolved =
    let owner : Slot = record { field = fields.Owner; position = 0; target = owner_of (spaces objects) x } in (and_parts (is_met objects x owner) (list_all (is_met objects x) (slots x)) resolved).1

-- so do those of an object without any
met_without : (objects : List ObjectValue) (x : ObjectValue) → slots x ≡ [] → are_met objects x ≡ true
unfolding are_met
met_without objects x none = ap (list_all (is_met objects x)) none

-- and those of an object whose references hold together
met_together : (objects : List ObjectValue) (cert : List Entry) (x : ObjectValue) → holds_together objects cert x ≡ true → are_met objects x ≡ true
unfolding holds_together
met_together objects cert x held = ⊎_elim
    (λ (typed : is_typed x ≡ true).
    let claimed : Bool = is_exempt objects (spaces objects) x || is_claimed objects (spaces objects) x in
    let begun : Bool = not (is_header x) || is_begun objects cert x in
    met_of_resolved objects x (and_parts (is_resolved objects x) (claimed && begun) ((implied (is_typed x) (is_resolved objects x && (claimed && begun))).0 held typed)).0)
    (λ (other : is_typed x ≡ false). met_without objects x (no_slots x other))
    (cases_Bool (is_typed x))

-- so do those of an object of which all is right
met_of_right : (objects : List ObjectValue) (cert : List Entry) (x : ObjectValue) → is_right objects cert x ≡ true → are_met objects x ≡ true
unfolding is_right
met_of_right objects cert x right =
    let others = and_parts (is_ranked objects cert x) (is_in_place objects cert x && holds_together objects cert x) right in
    met_together objects cert x (and_parts (is_in_place objects cert x) (holds_together objects cert x) others.1).1

-- where a slot doesn't meet its need, not all objects are right
pub unmet_refused : (objects : List ObjectValue) (cert : List Entry) → list_all (are_met objects) objects ≡ false → false ≡ list_all (is_right objects cert) objects
unmet_refused objects cert unmet = fails_by_weaker (are_met objects) (is_right objects cert) objects (met_of_right objects cert) unmet

-- the kind of a Typed object has an owner
pub owner_held : OwnersAreHeld → (x : ObjectValue) → IsTrue (is_typed x) → IsTrue (has_field fields.Owner (kind_of x))
owner_held held (TypedValue number handle common body) typed = held number handle common body
owner_held held (PlainValue number handle common rest refs) typed = absurd (cc typed)
owner_held held (RawValue number handle bytes) typed = absurd (cc typed)

-- the object at a place stands where its handle leads
pub own_place : (objects : List ObjectValue) (place : ℕ) (x : ObjectValue) → Ascend (handles_of objects) → slice_get objects place ≡ Some x → Some place ≡ place_in (handles_of objects) (handle_of x)
own_place objects place x ascend stands =
    let handle : slice_get (handles_of objects) place ≡ Some (handle_of x) = slice_get-map handle_of objects place ∙ ap (option_map handle_of) stands in
    sym (found_there (handles_of objects) (handle_of x) place ascend handle)

-- the same in what the checker shows
pub entry_seen : (now : Checked) (objects : List ObjectValue) (cert : List Entry) (handle : ℕ) (place : Option ℕ) (found : Option Entry) → now ≡ record { objects = objects; cert = cert } → handles_in cert ≡ handles_of objects
    → place ≡ place_in (handles_of now.objects) handle → found ≡ option_and_then (slice_get cert) place → found ≡ entry_at now.cert handle
entry_seen now objects cert handle place found is same at reported =
    reported
    ∙ entry_placed objects cert handle place same (at ∙ ap (λ (c : Checked). place_in (handles_of c.objects) handle) is)
    ∙ ap (λ (c : Checked). entry_at c.cert handle) (sym is)

-- what a test of the object of a handle says, by the object's place
pub tested_seen : (now : Checked) (objects : List ObjectValue) (cert : List Entry) (test : ObjectValue → Bool) (handle : ℕ) (place : Option ℕ) (reported : Bool) → now ≡ record { objects = objects; cert = cert }
    → place ≡ place_in (handles_of now.objects) handle → reported ≡ option_map_or test (option_and_then (slice_get objects) place) false → reported ≡ option_map_or test (object_at now.objects handle) false
tested_seen now objects cert test handle place reported is at says =
    says
    ∙ ap (λ (o : Option ℕ). option_map_or test (option_and_then (slice_get objects) o) false) (at ∙ ap (λ (c : Checked). place_in (handles_of c.objects) handle) is)
    ∙ ap (λ (found : Option ObjectValue). option_map_or test found false) (object_placed objects handle)
    ∙ ap (λ (c : Checked). option_map_or test (object_at c.objects handle) false) (sym is)

-- handles of lists of other lengths aren't the same
pub other_lengths : (entries : List Entry) (objects : List ObjectValue) → (length entries ≡ length objects → ⊥) → false ≡ are_handles entries objects
unfolding are_handles
other_lengths [] [] other = absurd (other refl)
other_lengths [] (x ∷ more) other = refl
other_lengths (entry ∷ entries) [] other = refl
other_lengths (entry ∷ entries) (x ∷ more) other =
    go (entry.handle == handle_of x) (other_lengths entries more (λ same. other (ap suc same)))
  where
    go : (test : Bool) → false ≡ are_handles entries more → false ≡ (test && are_handles entries more)
    go true rest = rest
    go false rest = refl

-- the first handles are the same, and then all are where the rest are
pub first_handles : (entry : Entry) (x : ObjectValue) (entries : List Entry) (more : List ObjectValue) (test : Bool) → (entry.handle == handle_of x) ≡ test
    → are_handles (entry ∷ entries) (x ∷ more) ≡ (test && are_handles entries more)
unfolding are_handles
first_handles entry x entries more test is = ap (λ (b : Bool). b && are_handles entries more) is

-- where one more handle is the same, all are where the rest are
pub handles_further : (entries : List Entry) (objects : List ObjectValue) (i : ℕ) (entry : Entry) (x : ObjectValue) (test whole : Bool) → slice_get entries i ≡ Some entry → slice_get objects i ≡ Some x
    → (entry.handle == handle_of x) ≡ test → are_handles (drop i entries) (drop i objects) ≡ whole → (test && are_handles (drop (i + 1) entries) (drop (i + 1) objects)) ≡ whole
handles_further entries objects i entry x test whole at also is so_far =
    sym (first_handles entry x (drop (i + 1) entries) (drop (i + 1) objects) test is)
    ∙ ap (λ (es : List Entry). are_handles es (x ∷ drop (i + 1) objects)) (sym (left_from entries i entry at))
    ∙ ap (are_handles (drop i entries)) (sym (left_from objects i x also))
    ∙ so_far

-- after the last there is none
pub no_handles : (entries : List Entry) (objects : List ObjectValue) (i : ℕ) (whole : Bool) → length entries ≤ i → length objects ≤ i → are_handles (drop i entries) (drop i objects) ≡ whole → true ≡ whole
unfolding are_handles
no_handles entries objects i whole past also so_far =
    ap (λ (es : List Entry). are_handles es []) (sym (drop_all i entries past)) ∙ ap (are_handles (drop i entries)) (sym (drop_all i objects also)) ∙ so_far

-- what a member of a block is asked, by its home
pub in_place_at : (objects : List ObjectValue) (cert : List Entry) (x block : ObjectValue) (home : ℕ) → home_place objects (spaces objects) x ≡ Some home → slice_get objects home ≡ Some block
    → is_in_place objects cert x ≡ is_placed objects cert x block
in_place_at objects cert x block home is stands =
    in_place_by_home objects cert x
    ∙ ap (λ (at : Option ℕ). option_map_or (λ (place : ℕ). option_map_or (is_placed objects cert x) (slice_get objects place) true) at true) is
    ∙ ap (λ (found : Option ObjectValue). option_map_or (is_placed objects cert x) found true) stands

-- and of what is no member nothing is
pub in_place_nowhere : (objects : List ObjectValue) (cert : List Entry) (x : ObjectValue) → home_place objects (spaces objects) x ≡ None → is_in_place objects cert x ≡ true
in_place_nowhere objects cert x is =
    in_place_by_home objects cert x
    ∙ ap (λ (at : Option ℕ). option_map_or (λ (place : ℕ). option_map_or (is_placed objects cert x) (slice_get objects place) true) at true) is

-- what is asked of objects is asked of those that the checker shows
pub can_seen : (now : Checked) (objects : List ObjectValue) (cert : List Entry) → record { objects = objects; cert = cert } ≡ now → CanBeChecked objects → CanBeChecked now.objects
can_seen now objects cert is can = subst (λ (c : Checked). CanBeChecked c.objects) is can

-- a result is what the tests say, and so what they stand for
pub reported_accepts : (objects : List ObjectValue) (cert : List Entry) (result : Result Bool NoMemory) → AcceptanceIsDecided → Ascend (handles_of objects) → IfOk result (λ is. is ≡ is_accepted objects cert)
    → IfOk result (λ is. IsTrue is ↔ Accepts objects cert)
reported_accepts objects cert (Ok is) reports ascend reported =
    let decided = reports objects cert ascend in (λ holds. decided.0 (sym reported ∙ holds), λ accepts. reported ∙ decided.1 accepts)
reported_accepts objects cert (Err fault) reports ascend reported = tt

pub reported_sound : (objects : List ObjectValue) (cert : List Entry) (result : Result Bool NoMemory) → AcceptedIsSound → Ascend (handles_of objects) → IfOk result (λ is. IsTrue is ↔ Accepts objects cert)
    → IfOk result (λ is. IsTrue is → IsSound objects)
reported_sound objects cert (Ok is) sound ascend accepts = λ holds. sound objects cert ascend (accepts.0 holds)
reported_sound objects cert (Err fault) sound ascend accepts = tt

-- what is known of the objects of a drawing is what the checker of a certificate knows
pub checker_holds : (drawing objects : List ObjectValue) (entries : List Entry) (known : Option SpaceHandles) (index : List ℕ) (owners : List (Option ℕ)) (counts : List ℕ) (claimed : Claimed) → objects ≡ drawing
    → CanBeChecked drawing → IsTrue (are_handles entries drawing) → known ≡ spaces objects → index ≡ handles_of objects → owners ≡ owner_table drawing (spaces drawing) → counts ≡ member_counts objects
    → AreBothCounted objects known claimed → IsTrue (list_all (are_met objects) objects) → IsChecker objects entries known index owners counts claimed
checker_holds drawing objects entries known index owners counts claimed same can handles knows indexed owned members claims met = record {
  can = subst (λ (all : List ObjectValue). CanBeChecked all) (sym same) can;
  entries = subst (λ (all : List ObjectValue). handles_in entries ≡ handles_of all) (sym same) ((handles_are entries drawing).0 handles);
  knows = knows;
  handles = indexed;
  owned = subst (λ (all : List ObjectValue). owners ≡ owner_table all (spaces all)) (sym same) owned;
  members = members;
  claims = subst (λ (those : Option SpaceHandles). AreBothCounted objects those claimed) knows claims;
  met = met;
}
