-- Chains over tables of places say what those over objects say.
use Rattle.std.proofs.Common.{◌≡◌, refl, sym, ap, ◌∙◌, subst, ℕ, Bool, true, false, List, length, Option, Some, None, inl, inr, arith}
use Rattle.std.specs.Prelude.{◌==◌, ◌<◌, ◌⊎◌, ◌↔◌, ◌&&◌, not, IsTrue, if◌then◌else◌}
use Rattle.std.specs.List.{slice_get, slice_index_or}
use Rattle.std.specs.Option.{option_map, option_map_or, option_and_then}
use Rattle.std.proofs.Math.Bool.{and-true, and-false}
use Rattle.std.proofs.lemmas.Bool.{cases_eq, false_from_ne_true}
use Rattle.std.proofs.lemmas.Bool.Decides.{Decides-eqb, nat_tests, same_from_decides}
use Rattle.std.proofs.lemmas.Option.{same_Some, slice_get-map, slice_get_within, slice_get-get_or}
use Rattle.dwg_graph.specs.declared.owner.SpaceHandles.{SpaceHandles}
use Rattle.dwg_graph.specs.Graph.{is_header, is_raw, is_member, is_member_kind, next_step, member_at, EndHandles, ends_of, HasMemberChain, HasChainBetween}
use Rattle.dwg_graph.specs.Owners.{spaces, owner_of, next_of}
use Rattle.dwg_graph.specs.Placed.{place_in, next_table, home_table, end_table, home_place, owner_place, home_at, end_places}
use Rattle.dwg_graph.specs.Places.{Ascend, handles_of}
use Rattle.dwg_graph.proofs.ObjectPaths.{ascending_are_distinct}
use Rattle.dwg_graph.proofs.PlacedObjects.{at_place, is_found, found_there, one_place, object_there}
use Rattle.dwg_graph.proofs.PlacedPaths.{object_of_place, in_table, steps_seen}
use Rattle.dwg_graph.proofs.Tests.{members_among}
use Rattle.dwg_object.specs.Objects.{ObjectValue, handle_of, kind_of}
use Rattle.dwg_chains.specs.ThingsAtPlaces.{TestsAgree}
use Rattle.dwg_chains.proofs.PlaceLaws.{chain_seen, place_of_contained}
use Rattle.dwg_chains.specs.Tables.{leads, lives_at, is_at, ends_at, HasChainAt}
use Rattle.dwg_chains.specs.declared.tables.ChainEnds.{ChainEnds}

-- two tests for being one agree where each is so exactly where the other is
same_tests : (a b c d : ℕ) → (a ≡ b → c ≡ d) → (c ≡ d → a ≡ b) → (a == b) ≡ (c == d)
same_tests a b c d forth back =
    same_from_decides (a == b) (c == d) (Decides-eqb a b) (λ is. back ((Decides-eqb c d).0 is), λ same. (Decides-eqb c d).1 (forth same))

-- a test with what fails at its end fails
fails_last : (a b c : Bool) → (a && (b && (c && false))) ≡ false
fails_last true true true = refl
fails_last true true false = refl
fails_last true false c = refl
fails_last false b c = refl

-- what another owns is no member
no_member : (known : Option SpaceHandles) (header y : ObjectValue) → (owner_of known y == handle_of header) ≡ false → is_member known header y ≡ false
unfolding is_member
no_member known header y other = ap (λ t. is_header header && (not (is_raw y) && (is_member_kind (kind_of y) && t))) other ∙ fails_last (is_header header) (not (is_raw y)) (is_member_kind (kind_of y))

-- a home that is there by a test is that one where both tests say so
home_by_test : (test : Bool) (q i : ℕ) (same : Bool) → (q == i) ≡ same → is_at (if test then Some q else None) i ≡ (test && same)
home_by_test true q i same is = is
home_by_test false q i same is = refl

-- a place lives at the home of the block of which the object there is a member
lives_where_member : (objects : List ObjectValue) (known : Option SpaceHandles) (i p : ℕ) (x y : ObjectValue) → Ascend (handles_of objects) → slice_get objects i ≡ Some x → slice_get objects p ≡ Some y
    → lives_at (home_table objects known) i p ≡ is_member known x y
lives_where_member objects known i p x y ascend at also = ap (λ (o : Option ℕ). is_at o i) (in_table objects (home_place objects known) p y also) ∙ go (owner_place objects known y) refl
  where
    handle_there : slice_get (handles_of objects) i ≡ Some (handle_of x)
    handle_there = slice_get-map handle_of objects i ∙ ap (option_map handle_of) at

    other_owner : (owner_of known y ≡ handle_of x → ⊥) → is_member known x y ≡ false
    other_owner differ = no_member known x y (false_from_ne_true (owner_of known y == handle_of x) (λ is. differ ((Decides-eqb (owner_of known y) (handle_of x)).0 is)))

    at_home : (q : ℕ) (z : ObjectValue) → owner_place objects known y ≡ Some q → slice_get objects q ≡ Some z → handle_of z ≡ owner_of known y → is_at (home_place objects known y) i ≡ is_member known x y
    at_home q z place stands owns = home ∙ either (cases_eq q i)
      where
        home : is_at (home_place objects known y) i ≡ is_at (if is_member known z y then Some q else None) i
        home = ap (λ (o : Option ℕ). is_at (option_and_then (home_at objects known y) o) i) place
            ∙ ap (λ (o : Option ObjectValue). is_at (option_and_then (λ owner. if is_member known owner y then Some q else None) o) i) stands

        either : (q ≡ i) ⊎ (q ≡ i → ⊥) → is_at (if is_member known z y then Some q else None) i ≡ is_member known x y
        either (inl here) =
            let one : z ≡ x = same_Some z x (sym stands ∙ ap (slice_get objects) here ∙ at) in
            home_by_test (is_member known z y) q i true (grind (arith, nat_tests, here)) ∙ and-true (is_member known z y) ∙ ap (λ (h : ObjectValue). is_member known h y) one
        either (inr apart) =
            let handle_z : slice_get (handles_of objects) q ≡ Some (handle_of z) = slice_get-map handle_of objects q ∙ ap (option_map handle_of) stands in
            home_by_test (is_member known z y) q i false (grind (arith, nat_tests, apart)) ∙ and-false (is_member known z y)
            ∙ sym (other_owner (λ same. apart (one_place (handles_of objects) (handle_of x) q i ascend (handle_z ∙ ap Some (owns ∙ same)) handle_there)))

    go : (place : Option ℕ) → owner_place objects known y ≡ place → is_at (home_place objects known y) i ≡ is_member known x y
    go None missing =
        ap (λ (o : Option ℕ). is_at (option_and_then (home_at objects known y) o) i) missing
        ∙ sym (other_owner (λ same. let found = found_there (handles_of objects) (handle_of x) i ascend handle_there in
        absurd (cc (sym missing ∙ ap (place_in (handles_of objects)) same ∙ found))))
    go (Some q) place = let stands = object_of_place objects q (owner_of known y) (at_place (handles_of objects) (owner_of known y) q place) in at_home q stands.0 place stands.1 stands.2

-- a place is that of an end exactly where the handle there is the end's
end_where_handle : (objects : List ObjectValue) (end : ℕ) → Ascend (handles_of objects) → TestsAgree (handles_of objects) (is_at (place_in (handles_of objects) end)) (λ handle. handle == end)
end_where_handle objects end ascend p h at = go (place_in (handles_of objects) end) refl
  where
    go : (place : Option ℕ) → place_in (handles_of objects) end ≡ place → is_at (place_in (handles_of objects) end) p ≡ (h == end)
    go None missing = ap (λ (o : Option ℕ). is_at o p) missing ∙ sym (false_from_ne_true (h == end) (λ is.
        let found = is_found (handles_of objects) end p (at ∙ ap Some ((Decides-eqb h end).0 is)) in absurd (cc (sym missing ∙ found.1))))
    go (Some q) found = ap (λ (o : Option ℕ). is_at o p) found ∙ same_tests q p h end
        (λ here. same_Some h end (sym at ∙ subst (λ (n : ℕ). slice_get (handles_of objects) n ≡ Some end) here (at_place (handles_of objects) end q found)))
        (λ one. one_place (handles_of objects) end q p ascend (at_place (handles_of objects) end q found) (at ∙ ap Some one))

-- the member test of a handle is that of its object
member_of_object : (objects : List ObjectValue) (known : Option SpaceHandles) (header y : ObjectValue) (p : ℕ) → Ascend (handles_of objects) → slice_get objects p ≡ Some y
    → member_at objects known header (handle_of y) ≡ is_member known header y
unfolding member_at
member_of_object objects known header y p ascend at = ap (λ o. option_map_or (is_member known header) o false) (object_there objects y p ascend at)

-- what a place says of a member, its handle says
members_agree : (objects : List ObjectValue) (known : Option SpaceHandles) (i : ℕ) (x : ObjectValue) → Ascend (handles_of objects) → slice_get objects i ≡ Some x
    → TestsAgree (handles_of objects) (lives_at (home_table objects known) i) (member_at objects known x)
members_agree objects known i x ascend at p h stands =
    let there = object_of_place objects p h stands in
    lives_where_member objects known i p x there.0 ascend at there.1
    ∙ sym (subst (λ (n : ℕ). member_at objects known x n ≡ is_member known x there.0) there.2 (member_of_object objects known x there.0 p ascend there.1))

-- a place that lives somewhere is one of so many
lives_within : (objects : List ObjectValue) (known : Option SpaceHandles) (i p : ℕ) → IsTrue (lives_at (home_table objects known) i p) → p < length (handles_of objects)
lives_within objects known i p lives = go (slice_get objects p) refl
  where
    go : (found : Option ObjectValue) → slice_get objects p ≡ found → p < length (handles_of objects)
    go None missing =
        let off : leads (home_table objects known) p ≡ None =
        ap (option_and_then (λ to. to)) (slice_get-map (home_place objects known) objects p ∙ ap (option_map (home_place objects known)) missing) in
        absurd (cc (sym lives ∙ ap (λ (o : Option ℕ). is_at o i) off))
    go (Some y) stands = slice_get_within (handles_of objects) p (handle_of y) (slice_get-map handle_of objects p ∙ ap (option_map handle_of) stands)

-- a place within a list has a handle
handle_within : (handles : List ℕ) (p : ℕ) → p < length handles → (h : ℕ) × (slice_get handles p ≡ Some h)
handle_within handles p within = (slice_index_or handles p 0, slice_get-get_or handles p 0 within)

-- the chain of a block with ends
seen_chain : (objects : List ObjectValue) (i : ℕ) (x : ObjectValue) (ends : EndHandles) → Ascend (handles_of objects) → slice_get objects i ≡ Some x
    → HasChainAt (home_table objects (spaces objects)) (next_table objects) i (Some (end_places (handles_of objects) ends)) ↔ HasChainBetween objects x (Some ends)
unfolding next_step
seen_chain objects i x ends ascend at =
    chain_seen (handles_of objects) (leads (next_table objects)) (next_step objects) (lives_at (home_table objects (spaces objects)) i)
    (is_at (place_in (handles_of objects) ends.first)) (is_at (place_in (handles_of objects) ends.last))
    (member_at objects (spaces objects) x) (λ handle. handle == ends.first) (λ handle. handle == ends.last)
    (record {
      distinct = ascending_are_distinct (handles_of objects) ascend;
      within = lives_within objects (spaces objects) i;
      among = members_among objects (spaces objects) x;
      steps = steps_seen objects next_of ascend;
      members = members_agree objects (spaces objects) i x ascend at;
      firsts = end_where_handle objects ends.first ascend;
      lasts = end_where_handle objects ends.last ascend;
    })

-- the ends that the table gives for a block
ends_in_table : (objects : List ObjectValue) (i : ℕ) (x : ObjectValue) → slice_get objects i ≡ Some x → ends_at (end_table objects) i ≡ option_map (end_places (handles_of objects)) (ends_of x)
ends_in_table objects i x at =
    ap (option_and_then (λ those. those))
    (slice_get-map (λ (y : ObjectValue). option_map (end_places (handles_of objects)) (ends_of y)) objects i ∙ ap (option_map (λ (y : ObjectValue). option_map (end_places (handles_of objects)) (ends_of y))) at)

-- no place lives at a home exactly where no handle is a member's
none_lives : (objects : List ObjectValue) (known : Option SpaceHandles) (i : ℕ) (x : ObjectValue) → Ascend (handles_of objects) → slice_get objects i ≡ Some x
    → ((p : ℕ) → lives_at (home_table objects known) i p ≡ false) ↔ ((h : ℕ) → member_at objects known x h ≡ false)
none_lives objects known i x ascend at =
    let agree = members_agree objects known i x ascend at in (
      λ none h. false_from_ne_true (member_at objects known x h) (λ is.
          let there = place_of_contained (handles_of objects) h (members_among objects known x h is) in
          absurd (cc (sym is ∙ sym (agree there.0 h there.1) ∙ none there.0))),
      λ none p. false_from_ne_true (lives_at (home_table objects known) i p) (λ lives.
          let there = handle_within (handles_of objects) p (lives_within objects known i p lives) in
          absurd (cc (sym lives ∙ agree p there.0 there.1 ∙ none there.0))),
    )

-- the chain of a block over places is that over handles
pub chain_placed : (objects : List ObjectValue) (i : ℕ) (x : ObjectValue) → Ascend (handles_of objects) → slice_get objects i ≡ Some x
    → HasChainAt (home_table objects (spaces objects)) (next_table objects) i (ends_at (end_table objects) i) ↔ HasMemberChain objects x
chain_placed objects i x ascend at =
    subst (λ (e : Option ChainEnds). HasChainAt (home_table objects (spaces objects)) (next_table objects) i e ↔ HasMemberChain objects x) (sym (ends_in_table objects i x at)) (go (ends_of x))
  where
    go : (ends : Option EndHandles) → HasChainAt (home_table objects (spaces objects)) (next_table objects) i (option_map (end_places (handles_of objects)) ends) ↔ HasChainBetween objects x ends
    go None = none_lives objects (spaces objects) i x ascend at
    go (Some ends) = seen_chain objects i x ends ascend at
