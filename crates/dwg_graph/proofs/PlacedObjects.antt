-- The object of a handle, found by its place.
use Rattle.std.proofs.Common.{◌≡◌, refl, sym, ap, ◌∙◌, subst, ⊎_elim, ℕ, zero, suc, Bool, true, false, List, [], ◌∷◌, Option, Some, None, inl, inr, arith}
use Rattle.std.specs.Prelude.{◌==◌, ◌<◌, ◌⊎◌, find, map}
use Rattle.std.specs.List.{slice_get, slice_index_or}
use Rattle.std.specs.Option.{option_map, option_and_then}
use Rattle.std.proofs.lemmas.Bool.{cases_Bool, cases_order}
use Rattle.std.proofs.lemmas.Bool.Decides.{Decides-eqb}
use Rattle.std.proofs.lemmas.Option.{same_Some, slice_get-map, slice_get_within, slice_get-get_or}
use Rattle.dwg_graph.specs.Graph.{object_at}
use Rattle.dwg_graph.specs.Placed.{place_in}
use Rattle.dwg_graph.specs.Places.{Ascend, handles_of}
use Rattle.dwg_object.specs.Objects.{ObjectValue, handle_of}
use Rattle.dwg_chains.proofs.WayLemmas.{option_map_found}

-- what stands at a place of all but the first
after : {A : Type 0} (x : A) (more : List A) (place : Option ℕ) → option_and_then (slice_get (x ∷ more)) (option_map suc place) ≡ option_and_then (slice_get more) place
after {A} x more None = refl
after {A} x more (Some n) = refl

-- what has a key stands at the place of that key
pub placed_by_key : {A : Type 0} (key : A → ℕ) (things : List A) (handle : ℕ) → option_and_then (slice_get things) (place_in (map key things) handle) ≡ find (λ y. key y == handle) things
unfolding place_in
placed_by_key {A} key [] handle = refl
placed_by_key {A} key (x ∷ more) handle = go (placed_by_key key more handle) (key x == handle) refl
  where
    go : option_and_then (slice_get more) (place_in (map key more) handle) ≡ find (λ y. key y == handle) more → (test : Bool) → (key x == handle) ≡ test
        → option_and_then (slice_get (x ∷ more)) (place_in (map key (x ∷ more)) handle) ≡ find (λ y. key y == handle) (x ∷ more)
    go same true is = rw is refl
    go same false is = rw is (after x more (place_in (map key more) handle) ∙ same)

-- the object of a handle stands at the place of that handle
pub object_placed : (objects : List ObjectValue) (handle : ℕ) → option_and_then (slice_get objects) (place_in (handles_of objects) handle) ≡ object_at objects handle
unfolding object_at
object_placed objects handle = placed_by_key handle_of objects handle

-- a place that was found has the handle
pub at_place : (handles : List ℕ) (handle place : ℕ) → place_in handles handle ≡ Some place → slice_get handles place ≡ Some handle
unfolding place_in
at_place [] handle place found = absurd (cc found)
at_place (first ∷ more) handle place found = ⊎_elim
    (λ (is : (first == handle) ≡ true).
    let here : Some 0 ≡ Some place = rw is at found in
    subst (λ n. slice_get (first ∷ more) n ≡ Some handle) (same_Some 0 place here) (ap Some ((Decides-eqb first handle).0 is)))
    (λ (other : (first == handle) ≡ false).
    let further = option_map_found suc (place_in more handle) place (rw other at found) in
    subst (λ n. slice_get (first ∷ more) n ≡ Some handle) (sym further.2) (at_place more handle further.0 further.1))
    (cases_Bool (first == handle))

-- a handle that stands somewhere is found
pub is_found : (handles : List ℕ) (handle place : ℕ) → slice_get handles place ≡ Some handle → (found : ℕ) × (place_in handles handle ≡ Some found)
unfolding place_in
is_found [] handle place stands = absurd (cc stands)
is_found (first ∷ more) handle zero stands = (0, rw ((Decides-eqb first handle).1 (same_Some first handle stands)) refl)
is_found (first ∷ more) handle (suc place) stands =
    let further = is_found more handle place stands in ⊎_elim
    (λ (is : (first == handle) ≡ true). (0, rw is refl))
    (λ (other : (first == handle) ≡ false). (suc further.0, rw other (ap (option_map suc) further.1)))
    (cases_Bool (first == handle))

-- handles that ascend stand at one place each
pub one_place : (handles : List ℕ) (handle i j : ℕ) → Ascend handles → slice_get handles i ≡ Some handle → slice_get handles j ≡ Some handle → i ≡ j
one_place handles handle i j ascend at also = go (cases_order i j)
  where
    value : (n : ℕ) → slice_get handles n ≡ Some handle → slice_index_or handles n 0 ≡ handle
    value n stands = same_Some (slice_index_or handles n 0) handle (sym (slice_get-get_or handles n 0 (slice_get_within handles n handle stands)) ∙ stands)

    go : (i ≡ j) ⊎ ((i < j) ⊎ (j < i)) → i ≡ j
    go (inl same) = same
    go (inr (inl before)) = absurd (omega (arith, ascend i j 0 before (slice_get_within handles j handle also), value i at, value j also))
    go (inr (inr after)) = absurd (omega (arith, ascend j i 0 after (slice_get_within handles i handle at), value i at, value j also))

-- the handle at a place is found there
pub found_there : (handles : List ℕ) (handle place : ℕ) → Ascend handles → slice_get handles place ≡ Some handle → place_in handles handle ≡ Some place
found_there handles handle place ascend stands =
    let found = is_found handles handle place stands in
    found.1 ∙ ap Some (one_place handles handle found.0 place ascend (at_place handles handle found.0 found.1) stands)

-- and so is the object at a place
pub object_there : (objects : List ObjectValue) (x : ObjectValue) (place : ℕ) → Ascend (handles_of objects) → slice_get objects place ≡ Some x → object_at objects (handle_of x) ≡ Some x
object_there objects x place ascend stands =
    let handle : slice_get (handles_of objects) place ≡ Some (handle_of x) = slice_get-map handle_of objects place ∙ ap (option_map handle_of) stands in
    sym (object_placed objects (handle_of x)) ∙ ap (option_and_then (slice_get objects)) (found_there (handles_of objects) (handle_of x) place ascend handle) ∙ stands
