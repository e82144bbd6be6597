-- What the handle of an item leads to, found by its place.
use Rattle.std.proofs.Common.{◌≡◌, refl, sym, ap, ◌∙◌, ℕ, Bool, true, false, List, [], ◌∷◌, Option, Some, None}
use Rattle.std.specs.Prelude.{◌==◌, ◌&&◌, is_some}
use Rattle.std.specs.List.{list_any, slice_get}
use Rattle.std.specs.Option.{option_and_then, option_map_or}
use Rattle.std.proofs.lemmas.Bool.{and_parts, and_from}
use Rattle.std.proofs.lemmas.Bool.Decides.{Decides-eqb}
use Rattle.dwg_appitems.specs.AppFindings.{is_layer}
use Rattle.dwg_graph.specs.Graph.{object_at}
use Rattle.dwg_graph.specs.Placed.{place_in}
use Rattle.dwg_graph.specs.Places.{Ascend, handles_of}
use Rattle.dwg_graph.proofs.PlacedObjects.{object_placed}
use Rattle.dwg_graph.proofs.Tests.{object_found}
use Rattle.dwg_object.specs.Objects.{ObjectValue, handle_of, kind_of}
use Rattle.dwg_chains.proofs.TestLemmas.{one_of_any, any_of_one}

-- two tests that hold together are the same
same_test : (one other : Bool) → (one ≡ true → other ≡ true) → (other ≡ true → one ≡ true) → one ≡ other
same_test true other to from = sym (to refl)
same_test false true to from = from refl
same_test false false to from = refl

-- what passes, if it is there, is there
passing_there : {A : Type 0} (test : A → Bool) (found : Option A) → option_map_or test found false ≡ true → (x : A) × (found ≡ Some x) × (test x ≡ true)
passing_there test None is = absurd (cc is)
passing_there test (Some x) is = (x, refl, is)

-- the object of a handle passes a test exactly where one that has it does
object_passes : (test : ObjectValue → Bool) (objects : List ObjectValue) (named : ℕ) → Ascend (handles_of objects)
    → option_map_or test (object_at objects named) false ≡ list_any (λ x. handle_of x == named && test x) objects
object_passes test objects named ascend =
    same_test (option_map_or test (object_at objects named) false) (list_any (λ x. handle_of x == named && test x) objects)
    (λ is.
    let there = passing_there test (object_at objects named) is in
    let stands = (object_found objects named there.0 ascend).0 there.1 in
    any_of_one (λ x. handle_of x == named && test x) objects there.0 stands.0 (and_from (handle_of there.0 == named) (test there.0) ((Decides-eqb (handle_of there.0) named).1 stands.1) there.2))
    (λ is.
    let one = one_of_any (λ x. handle_of x == named && test x) objects is in
    let parts = and_parts (handle_of one.0 == named) (test one.0) one.2 in
    let found = (object_found objects named one.0 ascend).1 (one.1, (Decides-eqb (handle_of one.0) named).0 parts.0) in
    ap (λ (object : Option ObjectValue). option_map_or test object false) found ∙ parts.1)

-- a layer is there exactly where the object at the place of its handle is one
pub layer_there : (objects : List ObjectValue) (named : ℕ) (place : Option ℕ) (answer : Bool) → Ascend (handles_of objects) → place ≡ place_in (handles_of objects) named
    → answer ≡ option_map_or (λ x. is_layer (kind_of x)) (option_and_then (slice_get objects) place) false
    → answer ≡ list_any (λ x. handle_of x == named && is_layer (kind_of x)) objects
layer_there objects named place answer ascend at is =
    is ∙ ap (λ (found : Option ℕ). option_map_or (λ x. is_layer (kind_of x)) (option_and_then (slice_get objects) found) false) at
    ∙ ap (λ (object : Option ObjectValue). option_map_or (λ x. is_layer (kind_of x)) object false) (object_placed objects named)
    ∙ object_passes (λ x. is_layer (kind_of x)) objects named ascend

-- a handle has a place exactly where an object has it
place_there : (objects : List ObjectValue) (named : ℕ) → is_some (place_in (handles_of objects) named) ≡ list_any (λ x. handle_of x == named) objects
unfolding place_in
place_there [] named = refl
place_there (x ∷ more) named = go (handle_of x == named) refl (place_in (handles_of more) named) refl (place_there more named)
  where
    go : (here : Bool) → (handle_of x == named) ≡ here → (after : Option ℕ) → place_in (handles_of more) named ≡ after → is_some (place_in (handles_of more) named) ≡ list_any (λ y. handle_of y == named) more
        → is_some (place_in (handles_of (x ∷ more)) named) ≡ list_any (λ y. handle_of y == named) (x ∷ more)
    go true is after same again = rw is refl
    go false is None same again = rw (is, same) (ap is_some (sym same) ∙ again)
    go false is (Some place) same again = rw (is, same) (ap is_some (sym same) ∙ again)

-- the same by what was found
pub object_there : (objects : List ObjectValue) (named : ℕ) (place : Option ℕ) (answer : Bool) → place ≡ place_in (handles_of objects) named → answer ≡ is_some place
    → answer ≡ list_any (λ x. handle_of x == named) objects
object_there objects named place answer at is = is ∙ ap is_some at ∙ place_there objects named
