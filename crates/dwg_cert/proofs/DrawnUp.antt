-- What is drawn up of objects is a certificate, and theirs where they are sound.
use Rattle.std.proofs.Common.{◌≡◌, refl, sym, ap, ◌∙◌, subst, ⊎_elim, ◌<◌, ◌≤◌, ◌+◌, ◌-◌, ◌^◌, ℕ, zero, suc, Bool, true, false, List, [], ◌∷◌, length, map, get_or, Option, Some, None, arith}
use Rattle.std.proofs.lemmas.Bool.{cases_Bool}
use Rattle.std.proofs.lemmas.Bool.Decides.{Decides-eqb, nat_tests}
use Rattle.std.proofs.lemmas.List.{length-map}
use Rattle.std.proofs.lemmas.Option.{same_Some}
use Rattle.std.specs.Prelude.{◌==◌, ◌↔◌, IfOk, IfSome, IsTrue, Contains, Result, Ok, Err, nat_lt, if◌then◌else◌}
use Rattle.std.specs.List.{AllByRecursion, slice_get}
use Rattle.std.specs.Option.{option_and_then, option_map, option_map_or}
use Rattle.dwg_base.specs.declared.device.NoMemory.{NoMemory}
use Rattle.dwg_cert.proofs.AcceptedOfSound.{sound_is_accepted}
use Rattle.dwg_cert.proofs.ChainPlaces.{IsChainOf, chain_of_block, chain_is_found, found_at, one_is_that}
use Rattle.dwg_cert.proofs.Entries.{handles_are, map_or_decided, of_block, block_found}
use Rattle.dwg_cert.proofs.Ranks.{way_of_rank}
use Rattle.dwg_cert.proofs.Reported.{acceptance_is_reported}
use Rattle.dwg_cert.proofs.SoundOfAccepted.{accepted_is_sound}
use Rattle.dwg_cert.specs.AcceptTests.{are_handles, is_accepted}
use Rattle.dwg_cert.specs.Accepts.{Accepts, handles_in}
use Rattle.dwg_cert.specs.Certificates.{IsSmallEntry, HandlesAscend, IsCertificate}
use Rattle.dwg_cert.specs.Certified.{rank_of, place_between, place_in_block, place_of, entry_of, certificate_of}
use Rattle.dwg_cert.specs.Drawn.{steps_to, home_ends, is_last, steps_left, left_of, steps_between, drawn_place, drawn_entry, drawn}
use Rattle.dwg_cert.specs.declared.entry.Entry.{Entry}
use Rattle.dwg_graph.specs.Graph.{object_at, there, is_member, owner_step, next_step, root_at, member_at, EndHandles, ends_of}
use Rattle.dwg_graph.specs.Owners.{spaces, owner_of, next_of}
use Rattle.dwg_graph.specs.Placed.{place_in}
use Rattle.dwg_graph.specs.Places.{Ascend, handles_of}
use Rattle.dwg_graph.specs.Sound.{IsSound}
use Rattle.dwg_graph.proofs.ObjectPaths.{step_to, stands_found}
use Rattle.dwg_graph.proofs.PlacedPaths.{steps_closed}
use Rattle.dwg_graph.proofs.Tests.{object_found, members_among}
use Rattle.dwg_object.specs.Objects.{ObjectValue, handle_of}
use Rattle.dwg_chains.specs.Ways.{way}
use Rattle.dwg_chains.proofs.ChainLaws.{straight_of_chain}
use Rattle.dwg_chains.proofs.MemberLemmas.{contains_first, contains_after}
use Rattle.dwg_chains.proofs.Numbering.{rank_at_place, stands_at, contains_there}
use Rattle.dwg_chains.proofs.RankLemmas.{IsStraight}
use Rattle.dwg_chains.proofs.WayLemmas.{option_map_found, option_then_found}

-- a way that is found in so many steps has no more
way_is_short : {A : Type 0} (step : A → Option A) (goal : A → Bool) (count : ℕ) (x : A) (path : List A) → way step goal count x ≡ Some path → length path ≤ count + 1
unfolding way
way_is_short {A} step goal zero x path found = ⊎_elim
    (λ (here : goal x ≡ true). let same : x ∷ [] ≡ path = same_Some (x ∷ []) path (rw here at found) in omega (arith, ap length same))
    (λ (away : goal x ≡ false). let none : ◌≡◌ {A = Option (List A)} None (Some path) = rw away at found in absurd (cc none))
    (cases_Bool (goal x))
way_is_short {A} step goal (suc count) x path found = ⊎_elim
    (λ (here : goal x ≡ true). let same : x ∷ [] ≡ path = same_Some (x ∷ []) path (rw here at found) in omega (arith, ap length same))
    (λ (away : goal x ≡ false).
    let mapped : option_map (λ rest. x ∷ rest) (option_and_then (way step goal count) (step x)) ≡ Some path = rw away at found in
    let after = option_map_found (λ rest. x ∷ rest) (option_and_then (way step goal count) (step x)) path mapped in
    let next = option_then_found (way step goal count) (step x) after.0 after.1 in
    omega (arith, way_is_short step goal count next.0 after.0 next.2, ap length after.2))
    (cases_Bool (goal x))

-- so there are no more steps than so many
few_steps : {A : Type 0} (step : A → Option A) (goal : A → Bool) (count : ℕ) (x : A) (steps : ℕ) → option_map (λ (path : List A). length path - 1) (way step goal count x) ≡ Some steps → steps ≤ count
few_steps {A} step goal count x steps is =
    let path = option_map_found (λ (those : List A). length those - 1) (way step goal count x) steps is in
    omega (arith, way_is_short step goal count x path.0 path.1, path.2)

-- a rank is at most the count of objects
few_owners : (objects : List ObjectValue) (x : ObjectValue) (rank : ℕ) → rank_of objects x ≡ Some rank → rank ≤ length objects
unfolding rank_of
few_owners objects x rank is = few_steps (owner_step objects (spaces objects)) (root_at objects (spaces objects)) (length objects) (handle_of x) rank is

-- so are the steps that are left
few_left : (objects : List ObjectValue) (handle steps : ℕ) → steps_left objects handle ≡ Some steps → steps ≤ length objects
unfolding steps_to steps_left
few_left objects handle steps is = few_steps (step_to objects next_of) (λ one. option_map_or (is_last objects) (object_at objects one) false) (length objects) handle steps is

-- fewer steps are at most as many as from the one
few_between : (all left place : ℕ) → (if nat_lt all left then None else Some (all - left)) ≡ Some place → place ≤ all
few_between all left place is = ⊎_elim
    (λ (more : nat_lt all left ≡ true). let none : ◌≡◌ {A = Option ℕ} None (Some place) = rw more at is in absurd (cc none))
    (λ (most : nat_lt all left ≡ false). let same : all - left ≡ place = same_Some (all - left) place (rw most at is) in omega (arith, same))
    (cases_Bool (nat_lt all left))

-- so is a place
few_places : (objects : List ObjectValue) (x : ObjectValue) (place : ℕ) → drawn_place objects x ≡ Some place → place ≤ length objects
unfolding drawn_place left_of
few_places objects x place is =
    let ends = option_then_found (λ (those : EndHandles). steps_between (steps_left objects those.first) (steps_left objects (handle_of x))) (home_ends objects x) place is in
    let all = option_then_found (λ (count : ℕ). option_and_then (λ (left : ℕ). if nat_lt count left then None else Some (count - left)) (steps_left objects (handle_of x))) (steps_left objects ends.0.first) place ends.2 in
    let left = option_then_found (λ (count : ℕ). if nat_lt all.0 count then None else Some (all.0 - count)) (steps_left objects (handle_of x)) place all.2 in
    omega (arith, few_between all.0 left.0 place left.2, few_left objects ends.0.first all.0 all.1)

-- what may be there is less than a number where it is at most one that is less
small_number : (found : Option ℕ) (most : ℕ) → ((n : ℕ) → found ≡ Some n → n ≤ most) → most < 2 ^ 58 → IfSome found (λ n. n < 2 ^ 62)
small_number None most few less = tt
small_number (Some n) most few less = omega (arith, few n refl, less)

-- the numbers of an entry are small
small_entry : (objects : List ObjectValue) (x : ObjectValue) → length objects < 2 ^ 58 → IsSmallEntry (drawn_entry objects x)
small_entry objects x few = record {
  rank = small_number (rank_of objects x) (length objects) (λ n is. few_owners objects x n is) few;
  chain = small_number (drawn_place objects x) (length objects) (λ n is. few_places objects x n is) few;
}

-- what holds of what each thing is mapped to holds of all of the map
all_mapped : {A B : Type 0} (Holds : B → Type 0) (f : A → B) (xs : List A) → ((x : A) → Holds (f x)) → AllByRecursion Holds (map f xs)
all_mapped Holds f [] each = tt
all_mapped Holds f (x ∷ xs) each = (each x, all_mapped Holds f xs each)

-- the handles of the entries ascend
ascending_entries : (objects : List ObjectValue) → Ascend (handles_of objects) → HandlesAscend (map (drawn_entry objects) objects)
ascending_entries objects ascend i j d before within =
    let count : length (map (drawn_entry objects) objects) ≡ length objects = length-map objects (drawn_entry objects) in
    let handles : length (handles_of objects) ≡ length objects = length-map objects handle_of in
    omega (arith, handle_at i (omega (arith, before, within, count)), handle_at j (omega (arith, within, count)), ascend i j d.handle before (omega (arith, within, count, handles)))
  where
    handle_at : (k : ℕ) → k < length objects → (get_or (map (drawn_entry objects) objects) k d).handle ≡ get_or (handles_of objects) k d.handle
    handle_at k inside = handle_in objects k inside
      where
        handle_in : (xs : List ObjectValue) (k : ℕ) → k < length xs → (get_or (map (drawn_entry objects) xs) k d).handle ≡ get_or (handles_of xs) k d.handle
        handle_in [] k inside = refl
        handle_in (x ∷ xs) zero inside = refl
        handle_in (x ∷ xs) (suc k) inside = handle_in xs k (omega (arith, inside))

-- the entries that are drawn up are a certificate
pub drawn_is_certificate : (objects : List ObjectValue) (entries : List Entry) → Ascend (handles_of objects) → length objects < 2 ^ 58 → entries ≡ drawn objects → IsCertificate entries
unfolding drawn
drawn_is_certificate objects entries ascend few is =
    subst (λ (those : List Entry). IsCertificate those) (sym is)
    (record { ascending = ascending_entries objects ascend; small = all_mapped IsSmallEntry (drawn_entry objects) objects (λ x. small_entry objects x few) })

-- and their handles are those of the objects
pub drawn_handles : (objects : List ObjectValue) (entries : List Entry) → entries ≡ drawn objects → IsTrue (are_handles entries objects)
unfolding drawn
drawn_handles objects entries is = subst (λ (those : List Entry). IsTrue (are_handles those objects)) (sym is) ((handles_are (map (drawn_entry objects) objects) objects).1 (handles_in_turn objects))
  where
    handles_in_turn : (xs : List ObjectValue) → handles_in (map (drawn_entry objects) xs) ≡ handles_of xs
    handles_in_turn [] = refl
    handles_in_turn (x ∷ xs) = ap (λ (handles : List ℕ). handle_of x ∷ handles) (handles_in_turn xs)

-- a way is straight by another test that says the same of what stands on it
straight_by : {A : Type 0} (step : A → Option A) (goal other : A → Bool) (x : A) (rest : List A) → ((y : A) → Contains (x ∷ rest) y → other y ≡ goal y) → IsStraight step goal x rest → IsStraight step other x rest
straight_by step goal other x [] same straight = same x (contains_first x []) ∙ straight
straight_by step goal other x (y ∷ rest) same straight = (
  same x (contains_first x (y ∷ rest)) ∙ straight.0,
  straight.1,
  straight_by step goal other y rest (λ z along. same z (contains_after x (y ∷ rest) z along)) straight.2,
)

-- the ends of the block of a member are its block's
ends_of_member : (objects : List ObjectValue) (block x : ObjectValue) → Ascend (handles_of objects) → Contains objects block → is_member (spaces objects) block x ≡ true → home_ends objects x ≡ ends_of block
unfolding home_ends
ends_of_member objects block x ascend stands member =
    ap (option_and_then (λ one. if is_member (spaces objects) one x then ends_of one else None)) (block_found objects block x ascend stands member)
    ∙ ap (λ (test : Bool). if test then ends_of block else None) member

-- a handle in a chain is that of a last object exactly where it is that of the chain's end
last_in_chain : (objects : List ObjectValue) (block : ObjectValue) (ends : EndHandles) (chain : List ℕ) → Ascend (handles_of objects) → Contains objects block → ends_of block ≡ Some ends → IsChainOf objects block ends chain
    → (handle : ℕ) → Contains chain handle → option_map_or (is_last objects) (object_at objects handle) false ≡ (handle == ends.last)
unfolding member_at is_last
last_in_chain objects block ends chain ascend stands known is handle along =
    let member = (map_or_decided (is_member (spaces objects) block) (λ x. IsTrue (is_member (spaces objects) block x)) (object_at objects handle) (λ x. (λ so. so, λ so. so))).0 ((is.whole handle).1 along) in
    let x : ObjectValue = member.0 in
    let has = (stands_found objects handle x member.1).1 in
    ap (λ found. option_map_or (is_last objects) found false) member.1
    ∙ ap (λ (those : Option EndHandles). option_map_or (λ (one : EndHandles). handle_of x == one.last) those false) (ends_of_member objects block x ascend stands member.2 ∙ known)
    ∙ ap (λ (n : ℕ). n == ends.last) has

-- as many steps are left from a place of a chain as stand after it
left_in_chain : (objects : List ObjectValue) (block : ObjectValue) (ends : EndHandles) (chain : List ℕ) → Ascend (handles_of objects) → Contains objects block → ends_of block ≡ Some ends → IsChainOf objects block ends chain
    → (place left handle : ℕ) → slice_get chain place ≡ Some handle → left + place + 1 ≡ length chain → steps_left objects handle ≡ Some left
unfolding next_step steps_to steps_left
left_in_chain objects block ends [] ascend stands known is place left handle there count = absurd is.begins
left_in_chain objects block ends (x ∷ rest) ascend stands known is place left handle there count =
    let step : ℕ → Option ℕ = step_to objects next_of in
    let last : ℕ → Bool = λ one. option_map_or (is_last objects) (object_at objects one) false in
    let straight = straight_of_chain step (λ one. one == ends.last) x rest is.distinct is.follows is.ends (one_is_that (x ∷ rest) ends.last) in
    let rank = rank_at_place step last x rest (straight_by step (λ one. one == ends.last) last x rest (last_in_chain objects block ends (x ∷ rest) ascend stands known is) straight) place left handle (omega (arith, count)) there in
    let inside : Contains (handles_of objects) handle = members_among objects (spaces objects) block handle ((is.whole handle).1 (contains_there (x ∷ rest) place handle there)) in
    way_of_rank (handles_of objects) step last (length objects) handle left (steps_closed objects next_of) inside (length-map objects handle_of) rank

-- the first of a chain is the end that its block names
first_in_chain : (objects : List ObjectValue) (block : ObjectValue) (ends : EndHandles) (chain : List ℕ) → IsChainOf objects block ends chain → slice_get chain 0 ≡ Some ends.first
first_in_chain objects block ends [] is = absurd is.begins
first_in_chain objects block ends (x ∷ rest) is = ap Some ((Decides-eqb x ends.first).0 is.begins)

-- as many fewer steps are left from a place than from the first as the place says
place_by_steps : (all left place : ℕ) → left + place ≡ all → steps_between (Some all) (Some left) ≡ Some place
place_by_steps all left place count =
    let most : nat_lt all left ≡ false = grind (arith, nat_tests, count) in
    let same : all - left ≡ place = omega (arith, count) in
    ap (λ (test : Bool). if test then None else Some (all - left)) most ∙ ap Some same

-- a member of a block with ends has the place in its chain that it is drawn up with
place_in_chain : (objects : List ObjectValue) (block x : ObjectValue) (ends : EndHandles) → Ascend (handles_of objects) → IsSound objects → Contains objects block → Contains objects x → is_member (spaces objects) block x ≡ true
    → ends_of block ≡ Some ends → steps_between (steps_left objects ends.first) (steps_left objects (handle_of x)) ≡ place_between objects (handle_of x) ends
unfolding member_at
place_in_chain objects block x ends ascend sound stands inside member known =
    let chain = chain_of_block objects block ends sound stands (of_block (spaces objects) block x member).header known in
    let is_one : member_at objects (spaces objects) block (handle_of x) ≡ true =
    ap (λ found. option_map_or (is_member (spaces objects) block) found false) ((object_found objects (handle_of x) x ascend).1 (inside, refl)) ∙ member in
    let at = stands_at chain.0 (handle_of x) ((chain.1.whole (handle_of x)).0 is_one) in
    let left : ℕ = length chain.0 - 1 - at.0 in
    let all : ℕ = length chain.0 - 1 in
    ap (λ (from : Option ℕ). steps_between from (steps_left objects (handle_of x)))
    (left_in_chain objects block ends chain.0 ascend stands known chain.1 0 all ends.first (first_in_chain objects block ends chain.0 chain.1) (omega (arith, at.1)))
    ∙ ap (steps_between (Some all)) (left_in_chain objects block ends chain.0 ascend stands known chain.1 at.0 left (handle_of x) at.2 (omega (arith, at.1)))
    ∙ place_by_steps all left at.0 (omega (arith, at.1))
    ∙ sym (ap (option_and_then (λ (listed : List ℕ). place_in listed (handle_of x))) (chain_is_found objects block ends chain.0 chain.1) ∙ found_at chain.0 (handle_of x) at.0 chain.1.distinct at.2)

-- in a sound drawing the places that are drawn up are those of the objects
places_of_sound : (objects : List ObjectValue) (x : ObjectValue) → Ascend (handles_of objects) → IsSound objects → Contains objects x → drawn_place objects x ≡ place_of objects x
unfolding drawn_place left_of home_ends place_of
places_of_sound objects x ascend sound inside = by_owner (object_at objects (owner_of (spaces objects) x)) refl
  where
    drawn_by : Option EndHandles → Option ℕ
    drawn_by those = option_and_then (λ (ends : EndHandles). steps_between (steps_left objects ends.first) (steps_left objects (handle_of x))) those

    by_ends : (block : ObjectValue) → Contains objects block → is_member (spaces objects) block x ≡ true → (those : Option EndHandles) → ends_of block ≡ those → drawn_by those ≡ option_and_then (place_between objects (handle_of x)) those
    by_ends block stands member None known = refl
    by_ends block stands member (Some ends) known = place_in_chain objects block x ends ascend sound stands inside member known

    by_test : (block : ObjectValue) → Contains objects block → (test : Bool) → is_member (spaces objects) block x ≡ test
        → drawn_by (if test then ends_of block else None) ≡ (if test then option_and_then (place_between objects (handle_of x)) (ends_of block) else None)
    by_test block stands true member = by_ends block stands member (ends_of block) refl
    by_test block stands false other = refl

    by_owner : (found : Option ObjectValue) → object_at objects (owner_of (spaces objects) x) ≡ found
        → drawn_by (option_and_then (λ block. if is_member (spaces objects) block x then ends_of block else None) found) ≡ option_and_then (place_in_block objects x) found
    by_owner None missing = refl
    by_owner (Some block) found = by_test block (stands_found objects (owner_of (spaces objects) x) block found).0 (is_member (spaces objects) block x) refl

-- two maps of a list are one where they give the same of each thing in it
same_maps : {A B : Type 0} (f g : A → B) (xs : List A) → ((x : A) → Contains xs x → f x ≡ g x) → map f xs ≡ map g xs
same_maps f g [] same = refl
same_maps {A} {B} f g (x ∷ xs) same =
    let first : f x ≡ g x = same x (contains_first x xs) in
    let rest : map f xs ≡ map g xs = same_maps f g xs (λ y inside. same y (contains_after x xs y inside)) in
    cc (first, rest)

-- what is drawn up of sound objects is their certificate
pub drawn_of_sound : (objects : List ObjectValue) (entries : List Entry) → Ascend (handles_of objects) → entries ≡ drawn objects → IsSound objects → entries ≡ certificate_of objects
unfolding drawn certificate_of
drawn_of_sound objects entries ascend is sound =
    is ∙ same_maps (drawn_entry objects) (entry_of objects) objects
    (λ x inside. ap (λ (place : Option ℕ). record { handle = handle_of x; rank = rank_of objects x; chain = place }) (places_of_sound objects x ascend sound inside))

-- so it is accepted exactly where they are sound
pub sound_reported : (objects : List ObjectValue) (entries : List Entry) (result : Result Bool NoMemory) → Ascend (handles_of objects) → entries ≡ drawn objects → IfOk result (λ is. is ≡ is_accepted objects entries)
    → IfOk result (λ are. IsTrue are ↔ IsSound objects)
sound_reported objects entries (Ok is) ascend same reported =
    let decided = acceptance_is_reported objects entries ascend in (
      λ holds. accepted_is_sound objects entries ascend (decided.0 (sym reported ∙ holds)),
      λ sound. reported ∙ decided.1 (subst (λ (those : List Entry). Accepts objects those) (sym (drawn_of_sound objects entries ascend same sound)) (sound_is_accepted objects ascend sound)),
    )
sound_reported objects entries (Err fault) ascend same reported = tt
