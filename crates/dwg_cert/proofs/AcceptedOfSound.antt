-- The certificate of a sound drawing is accepted.
use Rattle.std.proofs.Common.{◌≡◌, sym, refl, ap, ◌∙◌, subst, ⊎_elim, arith}
use Rattle.std.proofs.lemmas.Bool.{cases_Bool, both_ways}
use Rattle.std.proofs.lemmas.Bool.Decides.{Decides-eqb}
use Rattle.std.proofs.lemmas.List.{length-map}
use Rattle.std.specs.Prelude.{◌≢◌, ◌==◌, ℕ, suc, Bool, true, false, cond, List, [], ◌∷◌, length, map, find, filter, Option, Some, None, is_some, IsTrue, Contains}
use Rattle.std.specs.Option.{option_and_then, option_map, option_map_or}
use Rattle.dwg_cert.proofs.ChainPlaces.{IsChainOf, chain_of_block, places_are_in_chains}
use Rattle.dwg_cert.proofs.Entries.{contained_in_map, members_are, members_passed}
use Rattle.dwg_cert.proofs.Ranks.{ranks_are_steps}
use Rattle.dwg_cert.specs.Accepts.{Accepts, IsOwnedAt, IsMemberAt, AreInPlace, AreInPlaceBetween, handles_in, entry_at, rank_at, place_at, members_of}
use Rattle.dwg_cert.specs.Certified.{rank_of, place_of, entry_of, certificate_of}
use Rattle.dwg_cert.specs.declared.entry.Entry.{Entry}
use Rattle.dwg_graph.specs.Graph.{object_at, there, is_typed, is_raw, is_header, is_root, is_member, owner_step, next_step, root_at, member_at, EndHandles, ends_of, HasChainBetween}
use Rattle.dwg_graph.specs.Owners.{spaces, owner_of, next_of}
use Rattle.dwg_graph.specs.Places.{Ascend, handles_of}
use Rattle.dwg_graph.specs.Sound.{IsSound}
use Rattle.dwg_graph.proofs.ListLemmas.{contains_map, empty_of_none, none_of_empty}
use Rattle.dwg_graph.proofs.ObjectPaths.{ascending_are_distinct, stands_found, found_there}
use Rattle.dwg_graph.proofs.Tests.{object_found}
use Rattle.dwg_object.specs.Objects.{ObjectValue, handle_of}
use Rattle.dwg_chains.specs.Numbered.{RiseAlong, AreNumberedByPlace}
use Rattle.dwg_chains.specs.Paths.{AreDistinct, HasRank}
use Rattle.dwg_chains.proofs.Numbering.{places_rise, contains_there}
use Rattle.dwg_chains.proofs.RankLemmas.{rank_of_path}
use Rattle.dwg_chains.proofs.TestLemmas.{passing_of_kept}

-- the first of a list is found and mapped, or what is found after it is
found_first : {A B : Type 0} (turn : A → B) (here : Bool) (x : A) (found : Option B) (after : Option A) → found ≡ option_map turn after → cond here (Some (turn x)) found ≡ option_map turn (cond here (Some x) after)
found_first turn true x found after same = refl
found_first turn false x found after same = same

-- what is found in a map is that of what is found in the list
found_in_map : {A B : Type 0} (test : B → Bool) (turn : A → B) (xs : List A) → find test (map turn xs) ≡ option_map turn (find (λ x. test (turn x)) xs)
found_in_map test turn [] = refl
found_in_map {A} test turn (x ∷ xs) =
    found_first turn (test (turn x)) x (find test (map turn xs)) (find (λ (y : A). test (turn y)) xs) (found_in_map test turn xs)

-- the entry of a handle in a certificate of objects is that of the object of the handle
entry_found : (objects : List ObjectValue) (handle : ℕ) → entry_at (certificate_of objects) handle ≡ option_map (entry_of objects) (object_at objects handle)
unfolding entry_at certificate_of object_at
entry_found objects handle = found_in_map (λ (entry : Entry). entry.handle == handle) (entry_of objects) objects

-- the entry of an object's handle is the object's
entry_of_object : (objects : List ObjectValue) (x : ObjectValue) → Ascend (handles_of objects) → Contains objects x → entry_at (certificate_of objects) (handle_of x) ≡ Some (entry_of objects x)
entry_of_object objects x ascend inside =
    entry_found objects (handle_of x) ∙ ap (option_map (entry_of objects)) ((object_found objects (handle_of x) x ascend).1 (inside, refl))

-- so its rank is the one that the certificate gives its handle
pub rank_given : (objects : List ObjectValue) (x : ObjectValue) → Ascend (handles_of objects) → Contains objects x → rank_at (certificate_of objects) (handle_of x) ≡ rank_of objects x
rank_given objects x ascend inside = ap (option_and_then (λ (entry : Entry). entry.rank)) (entry_of_object objects x ascend inside)

-- and so is its place
pub place_given : (objects : List ObjectValue) (x : ObjectValue) → Ascend (handles_of objects) → Contains objects x → place_at (certificate_of objects) (handle_of x) ≡ place_of objects x
place_given objects x ascend inside = ap (option_and_then (λ (entry : Entry). entry.chain)) (entry_of_object objects x ascend inside)

-- entries of objects have their handles
handles_given : (objects xs : List ObjectValue) → handles_in (map (entry_of objects) xs) ≡ handles_of xs
handles_given objects [] = refl
handles_given objects (x ∷ xs) = ap (λ (handles : List ℕ). handle_of x ∷ handles) (handles_given objects xs)

-- so have those of the certificate
handles_are_given : (objects : List ObjectValue) → handles_in (certificate_of objects) ≡ handles_of objects
unfolding certificate_of
handles_are_given objects = handles_given objects objects

-- the rank of an object is how many steps lead from it to a root
steps_of_rank : (objects : List ObjectValue) (x : ObjectValue) (rank : ℕ) → Ascend (handles_of objects) → Contains objects x → rank_at (certificate_of objects) (handle_of x) ≡ Some rank
    → HasRank (owner_step objects (spaces objects)) (root_at objects (spaces objects)) (handle_of x) rank
steps_of_rank objects x rank ascend inside is = (ranks_are_steps objects x rank inside).0 (sym (rank_given objects x ascend inside) ∙ is)

-- so many steps to a root are the rank of an object
rank_of_steps : (objects : List ObjectValue) (x : ObjectValue) (rank : ℕ) → Ascend (handles_of objects) → Contains objects x
    → HasRank (owner_step objects (spaces objects)) (root_at objects (spaces objects)) (handle_of x) rank → rank_at (certificate_of objects) (handle_of x) ≡ Some rank
rank_of_steps objects x rank ascend inside has = rank_given objects x ascend inside ∙ (ranks_are_steps objects x rank inside).1 has

-- the handle of an object is that of a root exactly where the object is one
root_there : (objects : List ObjectValue) (x : ObjectValue) → Ascend (handles_of objects) → Contains objects x → root_at objects (spaces objects) (handle_of x) ≡ is_root (spaces objects) x
unfolding root_at
root_there objects x ascend inside = ap (λ (found : Option ObjectValue). option_map_or (is_root (spaces objects)) found false) ((object_found objects (handle_of x) x ascend).1 (inside, refl))

-- the certificate gives each Typed object a rank
ranked_given : (objects : List ObjectValue) (x : ObjectValue) → Ascend (handles_of objects) → IsSound objects → Contains objects x → IsTrue (is_typed x) → IsTrue (is_some (rank_at (certificate_of objects) (handle_of x)))
ranked_given objects x ascend sound inside typed =
    let ranked = rank_of_path (owner_step objects (spaces objects)) (root_at objects (spaces objects)) (handle_of x) (sound.path x inside typed) in
    ap is_some (rank_of_steps objects x ranked.0 ascend inside ranked.1)

-- an object of rank 0 is a root
root_given : (objects : List ObjectValue) (x : ObjectValue) → Ascend (handles_of objects) → Contains objects x → rank_at (certificate_of objects) (handle_of x) ≡ Some 0 → IsTrue (is_root (spaces objects) x)
unfolding HasRank
root_given objects x ascend inside is = sym (root_there objects x ascend inside) ∙ steps_of_rank objects x 0 ascend inside is

-- what is no root isn't Raw
form_of_no_root : (objects : List ObjectValue) (x : ObjectValue) → is_root (spaces objects) x ≡ false → is_raw x ≡ false
unfolding is_root
form_of_no_root objects x other = ⊎_elim (λ (raw : is_raw x ≡ true). absurd (both_ways (is_root (spaces objects) x) other (rw raw))) (λ (formed : is_raw x ≡ false). formed) (cases_Bool (is_raw x))

-- where an object leads is the handle of its owner
owner_there : (objects : List ObjectValue) (x : ObjectValue) (other : ℕ) → Ascend (handles_of objects) → Contains objects x → owner_step objects (spaces objects) (handle_of x) ≡ Some other
    → (owner : ObjectValue) × Contains objects owner × (handle_of owner ≡ owner_of (spaces objects) x) × (handle_of owner ≡ other)
unfolding owner_step
owner_there objects x other ascend inside to =
    let from : there objects (owner_of (spaces objects) x) ≡ Some other =
    sym (ap (option_and_then (λ (y : ObjectValue). there objects (owner_of (spaces objects) y))) ((object_found objects (handle_of x) x ascend).1 (inside, refl))) ∙ to in
    let found = found_there objects (owner_of (spaces objects) x) other from in
    let stands = stands_found objects (owner_of (spaces objects) x) found.0 found.1 in
    (found.0, stands.0, stands.1, stands.1 ∙ found.2)

-- an object of any other rank is Typed or Plain, and an object of the rank before owns it
owned_given : (objects : List ObjectValue) (x : ObjectValue) (rank : ℕ) → Ascend (handles_of objects) → Contains objects x → rank_at (certificate_of objects) (handle_of x) ≡ Some (suc rank)
    → IsOwnedAt objects (certificate_of objects) x rank
unfolding HasRank
owned_given objects x rank ascend inside is =
    let has = steps_of_rank objects x (suc rank) ascend inside is in
    let owner = owner_there objects x has.1 ascend inside has.2 in
    record {
      form = form_of_no_root objects x (sym (root_there objects x ascend inside) ∙ has.0);
      owner = owner.0;
      stands = owner.1;
      has = owner.2;
      ranked = rank_of_steps objects owner.0 rank ascend owner.1
          (subst (λ (handle : ℕ). HasRank (owner_step objects (spaces objects)) (root_at objects (spaces objects)) handle rank) (sym owner.3) has.3);
    }

-- a handle of a member is that of one of the members
member_of_handle : (objects : List ObjectValue) (block : ObjectValue) (handle place : ℕ) → Contains (map handle_of (members_of objects block)) handle → place_at (certificate_of objects) handle ≡ Some place
    → IsMemberAt objects (certificate_of objects) block handle place
member_of_handle objects block handle place inside placed =
    let member = contained_in_map handle_of (members_of objects block) handle inside in record { member = member.0; stands = member.1; has = member.2; placed = placed }

-- the places of what stands in a chain are those that the certificate gives it
numbered_by_place : (objects : List ObjectValue) (block : ObjectValue) (ends : EndHandles) (chain : List ℕ) → Ascend (handles_of objects) → IsSound objects → Contains objects block → IsTrue (is_header block)
    → ends_of block ≡ Some ends → IsChainOf objects block ends chain → AreNumberedByPlace chain (place_at (certificate_of objects))
numbered_by_place objects block ends chain ascend sound stands header known is place handle there =
    let listed = (members_passed objects block ascend handle).0 ((is.whole handle).1 (contains_there chain place handle there)) in
    let member = contained_in_map handle_of (members_of objects block) handle listed in
    let inside = ((members_are objects block member.0).1 member.1).0 in
    let placed = (places_are_in_chains objects member.0 place ascend sound inside).1 (record {
      block = block;
      stands = stands;
      header = header;
      ends = ends;
      known = known;
      chain = chain;
      is = is;
      there = there ∙ ap Some (sym member.2);
    }) in
    subst (λ (one : ℕ). place_at (certificate_of objects) one ≡ Some place) member.2 (place_given objects member.0 ascend inside ∙ placed)

-- things mapped to distinct ones stay so with a new one before them, whether that is kept or not
kept_distinct : {A B : Type 0} (turn : A → B) (here : Bool) (x : A) (kept : List A) → (Contains (map turn kept) (turn x) → ⊥) → AreDistinct (map turn kept) → AreDistinct (map turn (cond here (x ∷ kept) kept))
unfolding AreDistinct
kept_distinct turn true x kept new distinct = (new, distinct)
kept_distinct turn false x kept new distinct = distinct

-- what is kept of things mapped to distinct ones is so too
distinct_kept : {A B : Type 0} (turn : A → B) (test : A → Bool) (xs : List A) → AreDistinct (map turn xs) → AreDistinct (map turn (filter test xs))
unfolding AreDistinct
distinct_kept turn test [] distinct = tt
distinct_kept {A} {B} turn test (x ∷ xs) distinct =
    kept_distinct turn (test x) x (filter test xs)
    (λ again. let other = contained_in_map turn (filter test xs) (turn x) again in
    distinct.0 (subst (λ (y : B). Contains (map turn xs) y) other.2 (contains_map turn xs other.0 (passing_of_kept test xs other.0 other.1).0)))
    (distinct_kept turn test xs distinct.1)

-- the members of a block have distinct handles
distinct_members : (objects : List ObjectValue) (block : ObjectValue) → Ascend (handles_of objects) → AreDistinct (map handle_of (members_of objects block))
distinct_members objects block ascend = distinct_kept handle_of (is_member (spaces objects) block) objects (ascending_are_distinct (handles_of objects) ascend)

-- places rise along the members of a block
abbrev AreRising : List ObjectValue → ObjectValue → EndHandles → Type 0
AreRising objects block ends =
    RiseAlong (map handle_of (members_of objects block)) (next_step objects) (λ handle. handle == ends.first) (λ handle. handle == ends.last) (place_at (certificate_of objects))

-- so they do along those of a sound drawing's block with ends
rising : (objects : List ObjectValue) (block : ObjectValue) (ends : EndHandles) → Ascend (handles_of objects) → IsSound objects → Contains objects block → IsTrue (is_header block) → ends_of block ≡ Some ends
    → AreRising objects block ends
rising objects block ends ascend sound stands header known =
    let chain = chain_of_block objects block ends sound stands header known in
    places_rise (map handle_of (members_of objects block)) (next_step objects) (member_at objects (spaces objects) block) (λ handle. handle == ends.first) (λ handle. handle == ends.last)
    (place_at (certificate_of objects)) chain.0 (distinct_members objects block ascend) (members_passed objects block ascend) chain.1
    (numbered_by_place objects block ends chain.0 ascend sound stands header known chain.1)

-- where an object leads in a block is what follows it
next_there : (objects : List ObjectValue) (x : ObjectValue) (other : ℕ) → Ascend (handles_of objects) → Contains objects x → next_step objects (handle_of x) ≡ Some other → other ≡ next_of x
unfolding next_step
next_there objects x other ascend inside to =
    let from : there objects (next_of x) ≡ Some other =
    sym (ap (option_and_then (λ (y : ObjectValue). there objects (next_of y))) ((object_found objects (handle_of x) x ascend).1 (inside, refl))) ∙ to in
    sym (found_there objects (next_of x) other from).2

-- members along which places rise are in place
in_place : (objects : List ObjectValue) (block : ObjectValue) (ends : EndHandles) → Ascend (handles_of objects) → AreRising objects block ends → AreInPlace objects (certificate_of objects) block ends
in_place objects block ends ascend rise = record {
  first = let begins = rise.begins in
      let here : begins.0 ≡ ends.first = (Decides-eqb begins.0 ends.first).0 begins.2 in
      subst (λ (handle : ℕ). IsMemberAt objects (certificate_of objects) block handle 0) here (member_of_handle objects block begins.0 0 begins.1 begins.3);
  below = λ x inside. let small = rise.small (handle_of x) (contains_map handle_of (members_of objects block) x inside) in (small.0, small.1, omega (arith, small.2, count));
  next = λ x place inside placed less. let next = rise.rises (handle_of x) place (contains_map handle_of (members_of objects block) x inside) placed (omega (arith, less, count)) in
      let is : next.0 ≡ next_of x = next_there objects x next.0 ascend ((members_are objects block x).1 inside).0 next.1 in
      subst (λ (handle : ℕ). IsMemberAt objects (certificate_of objects) block handle (suc place)) is (member_of_handle objects block next.0 (suc place) next.2 next.3);
  last = λ x place inside placed is. (Decides-eqb (handle_of x) ends.last).0 (rise.ends (handle_of x) place (contains_map handle_of (members_of objects block) x inside) placed (omega (arith, is, count)));
}
  where
    count : length (map handle_of (members_of objects block)) ≡ length (members_of objects block)
    count = length-map (members_of objects block) handle_of

-- a block without members has no ends
empty_given : (objects : List ObjectValue) (block : ObjectValue) → Ascend (handles_of objects) → IsSound objects → Contains objects block → IsTrue (is_header block) → members_of objects block ≡ [] → ends_of block ≡ None
empty_given objects block ascend sound stands header none = go (ends_of block) refl
  where
    go : (ends : Option EndHandles) → ends_of block ≡ ends → ends_of block ≡ None
    go None is = is
    go (Some ends) is =
        let rise = rising objects block ends ascend sound stands header is in
        absurd (none_of_empty (map handle_of (members_of objects block)) rise.begins.0 (ap (map handle_of) none) rise.begins.1)

-- a block with members has ends, and they are in place between these
chain_given : (objects : List ObjectValue) (block : ObjectValue) → Ascend (handles_of objects) → IsSound objects → Contains objects block → IsTrue (is_header block) → members_of objects block ≢ []
    → AreInPlaceBetween objects (certificate_of objects) block (ends_of block)
chain_given objects block ascend sound stands header some = go (ends_of block) refl
  where
    no_member : ends_of block ≡ None → (x : ObjectValue) → Contains (members_of objects block) x → ⊥
    no_member is x inside =
        let none : HasChainBetween objects block None = subst (λ (ends : Option EndHandles). HasChainBetween objects block ends) is (sound.chain block stands header) in
        both_ways (member_at objects (spaces objects) block (handle_of x)) (none (handle_of x))
        ((members_passed objects block ascend (handle_of x)).1 (contains_map handle_of (members_of objects block) x inside))

    go : (ends : Option EndHandles) → ends_of block ≡ ends → AreInPlaceBetween objects (certificate_of objects) block ends
    go None is = some (empty_of_none (members_of objects block) (no_member is))
    go (Some ends) is = in_place objects block ends ascend (rising objects block ends ascend sound stands header is)

-- the certificate of a sound drawing is accepted
pub sound_is_accepted : (objects : List ObjectValue) → Ascend (handles_of objects) → IsSound objects → Accepts objects (certificate_of objects)
sound_is_accepted objects ascend sound = record {
  handles = handles_are_given objects;
  needs = sound.needs;
  ranked = λ x inside typed. ranked_given objects x ascend sound inside typed;
  root = λ x inside is. root_given objects x ascend inside is;
  owned = λ x rank inside is. owned_given objects x rank ascend inside is;
  empty = λ x inside header none. empty_given objects x ascend sound inside header none;
  chain = λ x inside header some. chain_given objects x ascend sound inside header some;
}
