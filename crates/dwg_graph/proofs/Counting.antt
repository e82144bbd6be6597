-- One slot is counted at the place of its target.
use Rattle.std.proofs.Common.{◌≡◌, ◌≢◌, refl, sym, subst, ◌∙◌, ap, ◌<◌, ◌≤◌, ◌+◌, ℕ, zero, suc, List, [], ◌∷◌, length, map, get_or, Some, None, Bool, true, false, inl, inr, arith}
use Rattle.std.specs.Prelude.{◌&&◌, ◌⊎◌, if◌then◌else◌}
use Rattle.std.specs.List.{slice_get, count_by}
use Rattle.std.specs.Option.{option_map}
use Rattle.std.proofs.Math.Bool.{and-true, and-false}
use Rattle.std.proofs.lemmas.Bool.{cases_order, false_from_ne_true}
use Rattle.std.proofs.lemmas.Bool.Decides.{nat_tests}
use Rattle.std.proofs.lemmas.List.{length-map, length-set, get_or-set_same, get_or-set_other}
use Rattle.std.proofs.lemmas.List.Sums.{count_by-le-length, length-filter, sum_by-cons}
use Rattle.std.proofs.lemmas.Option.{same_Some, slice_get-map, slice_get_read, slice_get_within}
use Rattle.dwg_graph.specs.declared.slot.Slot.{Slot}
use Rattle.dwg_graph.specs.Claimed.{Adds, leads_to, claiming, raised}
use Rattle.dwg_graph.specs.Graph.{claims_by}
use Rattle.dwg_graph.specs.Placed.{place_in}
use Rattle.dwg_graph.specs.Places.{Ascend, handles_of}
use Rattle.dwg_graph.proofs.PlacedObjects.{at_place, found_there}
use Rattle.dwg_kinds.specs.declared.kind.Kind.{Kind}
use Rattle.dwg_object.specs.Objects.{ObjectValue, handle_of, value_of}
use Rattle.dwg_object.specs.declared.object.Object as declared

-- one that a test counts or doesn't
count_one : {A : Type 0} (test : A → Bool) (x : A) → count_by test (x ∷ []) ≡ (if test x then 1 else 0)
count_one {A} test x = sum_by-cons (λ y. if test y then 1 else 0) x [] ∙ omega arith

-- a slot that claims
claiming_one : (kind : Kind) (slot : Slot) → claims_by kind slot.field ≡ true → claiming kind (slot ∷ []) ≡ slot ∷ []
unfolding claiming
claiming_one kind slot is = rw is refl

-- a slot that doesn't
claiming_none : (kind : Kind) (slot : Slot) → claims_by kind slot.field ≡ false → claiming kind (slot ∷ []) ≡ []
unfolding claiming
claiming_none kind slot is = rw is refl

-- slots that claim are no more than all
pub claiming_few : (kind : Kind) (held : List Slot) → length (claiming kind held) ≤ length held
unfolding claiming
claiming_few kind held =
    omega (arith, length-filter (λ (slot : Slot). claims_by kind slot.field) held, count_by-le-length (λ (slot : Slot). claims_by kind slot.field) held)

-- nothing is counted
pub adds_nothing : (objects : List ObjectValue) (test : ObjectValue → Slot → Bool) (counts : List ℕ) → Adds objects test [] counts counts
adds_nothing objects test counts = record {
  long = refl;
  each = λ place x stands. omega arith;
}

-- a slot that no test counts
adds_no_test : (objects : List ObjectValue) (test : ObjectValue → Slot → Bool) (slot : Slot) (counts : List ℕ)
    → ((place : ℕ) (x : ObjectValue) → slice_get objects place ≡ Some x → test x slot ≡ false) → Adds objects test (slot ∷ []) counts counts
adds_no_test objects test slot counts never = record {
  long = refl;
  each = λ place x stands.
      let none : count_by (test x) (slot ∷ []) ≡ 0 = count_one (test x) slot ∙ ap (λ b. if b then 1 else 0) (never place x stands) in
      omega (arith, none);
}

-- a slot that a test counts in one place alone
adds_at : (objects : List ObjectValue) (test : ObjectValue → Slot → Bool) (slot : Slot) (target more : ℕ) (before after : List ℕ) → length before ≡ length objects → after ≡ raised before target more
    → ((x : ObjectValue) → slice_get objects target ≡ Some x → (if test x slot then 1 else 0) ≡ more)
    → ((place : ℕ) (x : ObjectValue) → slice_get objects place ≡ Some x → place ≢ target → test x slot ≡ false) → Adds objects test (slot ∷ []) before after
adds_at objects test slot target more before after long is here elsewhere = record {
  long = ap length is ∙ length-set before target (get_or before target 0 + more);
  each = λ place x stands. each place x stands (cases_order place target);
}
  where
    at_target : (x : ObjectValue) → slice_get objects target ≡ Some x → get_or after target 0 ≡ get_or before target 0 + count_by (test x) (slot ∷ [])
    at_target x stands =
        let within : target < length before = omega (arith, long, slice_get_within objects target x stands) in
        let now : get_or after target 0 ≡ get_or before target 0 + more = ap (λ (v : List ℕ). get_or v target 0) is ∙ get_or-set_same before target (get_or before target 0 + more) 0 within in
        omega (arith, now, count_one (test x) slot, here x stands)

    at_other : (place : ℕ) (x : ObjectValue) → slice_get objects place ≡ Some x → place ≢ target → get_or after place 0 ≡ get_or before place 0 + count_by (test x) (slot ∷ [])
    at_other place x stands other =
        let now : get_or after place 0 ≡ get_or before place 0 = ap (λ (v : List ℕ). get_or v place 0) is ∙ get_or-set_other before target place (get_or before target 0 + more) 0 other in
        let none : count_by (test x) (slot ∷ []) ≡ 0 = count_one (test x) slot ∙ ap (λ b. if b then 1 else 0) (elsewhere place x stands other) in
        omega (arith, now, none)

    each : (place : ℕ) (x : ObjectValue) → slice_get objects place ≡ Some x → (place ≡ target) ⊎ ((place < target) ⊎ (target < place))
        → get_or after place 0 ≡ get_or before place 0 + count_by (test x) (slot ∷ [])
    each place x stands (inl same) = subst (λ n. get_or after n 0 ≡ get_or before n 0 + count_by (test x) (slot ∷ [])) (sym same) (at_target x (subst (λ n. slice_get objects n ≡ Some x) same stands))
    each place x stands (inr (inl less)) = at_other place x stands (λ same. omega (arith, same, less))
    each place x stands (inr (inr more_than)) = at_other place x stands (λ same. omega (arith, same, more_than))

-- a slot leads only to what stands at the place of its target
leads_there : (objects : List ObjectValue) (slot : Slot) (place : ℕ) (x : ObjectValue) → Ascend (handles_of objects) → slice_get objects place ≡ Some x → leads_to x slot ≡ true
    → place_in (handles_of objects) slot.target ≡ Some place
leads_there objects slot place x ascend stands leads =
    let same : slot.target ≡ handle_of x = grind (arith, nat_tests, leads) in
    let handle : slice_get (handles_of objects) place ≡ Some (handle_of x) = slice_get-map handle_of objects place ∙ ap (option_map handle_of) stands in
    ap (place_in (handles_of objects)) same ∙ found_there (handles_of objects) (handle_of x) place ascend handle

-- and leads to that
leads_here : (objects : List ObjectValue) (slot : Slot) (place : ℕ) (x : ObjectValue) → place_in (handles_of objects) slot.target ≡ Some place → slice_get objects place ≡ Some x
    → leads_to x slot ≡ true
leads_here objects slot place x at stands =
    let handle : slice_get (handles_of objects) place ≡ Some (handle_of x) = slice_get-map handle_of objects place ∙ ap (option_map handle_of) stands in
    let same : handle_of x ≡ slot.target = same_Some (handle_of x) slot.target (sym handle ∙ at_place (handles_of objects) slot.target place at) in
    grind (arith, nat_tests, same)

-- a slot leads to an object that passes a test
abbrev pub leads_where : (ObjectValue → Bool) → ObjectValue → Slot → Bool
leads_where test x slot = test x && leads_to x slot

-- it leads to none that stands elsewhere
leads_nowhere : (objects : List ObjectValue) (test : ObjectValue → Bool) (slot : Slot) (place : ℕ) (x : ObjectValue) → Ascend (handles_of objects) → slice_get objects place ≡ Some x
    → (place_in (handles_of objects) slot.target ≡ Some place → ⊥) → leads_where test x slot ≡ false
leads_nowhere objects test slot place x ascend stands elsewhere =
    ap (λ leads. test x && leads) (false_from_ne_true (leads_to x slot) (λ leads. elsewhere (leads_there objects slot place x ascend stands leads))) ∙ and-false (test x)

-- a slot that claims nothing
pub no_claim : (objects : List ObjectValue) (test : ObjectValue → Slot → Bool) (kind : Kind) (slot : Slot) (counts : List ℕ) → claims_by kind slot.field ≡ false
    → Adds objects test (claiming kind (slot ∷ [])) counts counts
no_claim objects test kind slot counts is = rw (claiming_none kind slot is) (adds_nothing objects test counts)

-- a slot whose target isn't there
pub no_target : (objects : List ObjectValue) (test : ObjectValue → Bool) (kind : Kind) (slot : Slot) (counts : List ℕ) → Ascend (handles_of objects) → claims_by kind slot.field ≡ true
    → place_in (handles_of objects) slot.target ≡ None → Adds objects (leads_where test) (claiming kind (slot ∷ [])) counts counts
no_target objects test kind slot counts ascend claims at =
    rw (claiming_one kind slot claims)
    (adds_no_test objects (leads_where test) slot counts (λ place x stands. leads_nowhere objects test slot place x ascend stands (λ there. absurd (cc (at, there)))))

-- a slot whose target is there
pub one_target : (objects : List ObjectValue) (test : ObjectValue → Bool) (kind : Kind) (slot : Slot) (target : ℕ) (object : ObjectValue) (before after : List ℕ) → Ascend (handles_of objects)
    → claims_by kind slot.field ≡ true → place_in (handles_of objects) slot.target ≡ Some target → slice_get objects target ≡ Some object → length before ≡ length objects
    → after ≡ raised before target (if test object then 1 else 0) → Adds objects (leads_where test) (claiming kind (slot ∷ [])) before after
one_target objects test kind slot target object before after ascend claims at there long grown =
    rw (claiming_one kind slot claims)
    (adds_at objects (leads_where test) slot target (if test object then 1 else 0) before after long grown
    (λ x stands. ap (λ b. if b then 1 else 0) (here x (same_Some object x (sym there ∙ stands)) (leads_here objects slot target x at stands)))
    (λ place x stands other. leads_nowhere objects test slot place x ascend stands (λ found. other (same_Some place target (sym found ∙ at)))))
  where
    here : (x : ObjectValue) → object ≡ x → leads_to x slot ≡ true → leads_where test x slot ≡ test object
    here x same leads = ap (λ b. test x && b) leads ∙ and-true (test x) ∙ ap test (sym same)

-- the place of a target is one of an object
pub target_within : (objects : List declared.Object) (handle place : ℕ) → place_in (handles_of (map value_of objects)) handle ≡ Some place → place < length objects
target_within objects handle place at =
    let found = at_place (handles_of (map value_of objects)) handle place at in
    omega (arith, slice_get_within (handles_of (map value_of objects)) place handle found, length-map (map value_of objects) handle_of, length-map objects value_of)

-- the value of the object at a place
pub value_there : (objects : List declared.Object) (place : ℕ) (object : declared.Object) → place < length objects → object ≡ get_or objects place object
    → slice_get (map value_of objects) place ≡ Some (value_of object)
value_there objects place object within is = slice_get-map value_of objects place ∙ ap (option_map value_of) (slice_get_read objects (length objects) place object refl within is)

-- something stands at each place
pub stands_there : {A : Type 0} (things : List A) (place : ℕ) → place < length things → (x : A) × (slice_get things place ≡ Some x)
stands_there {A} [] place within = absurd (omega (arith, within))
stands_there {A} (x ∷ more) zero within = (x, refl)
stands_there {A} (x ∷ more) (suc place) within = stands_there more place (omega (arith, within))
