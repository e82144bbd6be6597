-- Owner paths and chains over handles are those over objects, where handles are distinct.
use Rattle.std.proofs.Common.{◌≡◌, sym, refl, ap, ◌∙◌, subst, ⊎_elim, ℕ, suc, Bool, true, false, List, [], ◌∷◌, Option, Some, None, arith}
use Rattle.std.specs.Prelude.{◌==◌, ◌↔◌, is_some, Contains, if◌then◌else◌}
use Rattle.std.specs.Option.{option_and_then, option_map_or}
use Rattle.std.proofs.lemmas.Bool.{both_ways, false_from_ne_true}
use Rattle.std.proofs.lemmas.Bool.Decides.{Decides-eqb}
use Rattle.std.proofs.lemmas.Option.{cond_some}
use Rattle.dwg_graph.specs.Graph.{object_at, there, is_root, is_member, owner_step, next_step, root_at, member_at, EndHandles, ends_of, HasOwnerPath, HasMemberChain, HasChainBetween}
use Rattle.dwg_graph.specs.ObjectPaths.{owner_object, next_object, HasObjectPath, HasObjectChain, HasObjectChainBetween}
use Rattle.dwg_graph.specs.Owners.{spaces, owner_of, next_of}
use Rattle.dwg_graph.specs.Places.{Ascend, handles_of}
use Rattle.dwg_graph.proofs.Keyed.{AreKeyed, AreKeys, KeysAgree, path_keyed, chain_keyed}
use Rattle.dwg_graph.proofs.ListLemmas.{contains_map}
use Rattle.dwg_object.specs.Objects.{ObjectValue, handle_of}
use Rattle.dwg_chains.specs.Paths.{AreDistinct}
use Rattle.dwg_chains.proofs.MemberLemmas.{contains_cases, contains_none}
use Rattle.dwg_chains.proofs.TestLemmas.{passing_of_found, found_of_passing}

-- handles that ascend are distinct
pub ascending_are_distinct : (handles : List ℕ) → Ascend handles → AreDistinct handles
unfolding AreDistinct
ascending_are_distinct [] ascend = tt
ascending_are_distinct (first ∷ more) ascend = (
  λ (k, within, same). absurd (omega (arith, ascend 0 (suc k) first (omega arith) (omega (arith, within)), same)),
  ascending_are_distinct more (λ i j d before within. ascend (suc i) (suc j) d (omega (arith, before)) (omega (arith, within))),
)

-- objects of one handle are one
one_of_handle : (objects : List ObjectValue) → AreDistinct (handles_of objects) → (x y : ObjectValue) → Contains objects x → Contains objects y → handle_of x ≡ handle_of y → x ≡ y
unfolding AreDistinct
one_of_handle [] distinct x y here there same = absurd (contains_none x here)
one_of_handle (z ∷ zs) distinct x y here there same = ⊎_elim
    (λ first. ⊎_elim
    (λ also. sym first ∙ also)
    (λ after. absurd (distinct.0 (subst (λ (h : ℕ). Contains (handles_of zs) h) (sym (ap handle_of first ∙ same)) (contains_map handle_of zs y after))))
    (contains_cases z zs y there))
    (λ after. ⊎_elim
    (λ first. absurd (distinct.0 (subst (λ (h : ℕ). Contains (handles_of zs) h) (same ∙ sym (ap handle_of first)) (contains_map handle_of zs x after))))
    (λ also. one_of_handle zs distinct.1 x y after also same)
    (contains_cases z zs y there))
    (contains_cases z zs x here)

-- what is found by a handle stands in the drawing and has it
pub stands_found : (objects : List ObjectValue) (handle : ℕ) (x : ObjectValue) → object_at objects handle ≡ Some x → Contains objects x × (handle_of x ≡ handle)
unfolding object_at
stands_found objects handle x found =
    let passing = passing_of_found (λ y. handle_of y == handle) objects x found in
    (passing.0, (Decides-eqb (handle_of x) handle).0 passing.1)

-- what stands in the drawing is found by its handle
pub found_standing : (objects : List ObjectValue) → AreDistinct (handles_of objects) → (x : ObjectValue) → Contains objects x → object_at objects (handle_of x) ≡ Some x
unfolding object_at
found_standing objects distinct x inside =
    let found = found_of_passing (λ y. handle_of y == handle_of x) objects x inside ((Decides-eqb (handle_of x) (handle_of x)).1 refl) in
    let other = stands_found objects (handle_of x) found.0 found.1 in
    found.1 ∙ ap Some (one_of_handle objects distinct found.0 x other.0 inside other.1)

-- a step from each object to a handle
abbrev pub step_to : List ObjectValue → (ObjectValue → ℕ) → ℕ → Option ℕ
step_to objects target handle = option_and_then (λ x. there objects (target x)) (object_at objects handle)

-- what is something, is it
some_of : {A : Type 0} (found : Option A) → is_some found ≡ true → (x : A) × (found ≡ Some x)
some_of None is = absurd (cc is)
some_of (Some x) is = (x, refl)

-- a handle that is there is that of an object, and is that one
pub found_there : (objects : List ObjectValue) (handle other : ℕ) → there objects handle ≡ Some other → (y : ObjectValue) × (object_at objects handle ≡ Some y) × (handle ≡ other)
unfolding there
found_there objects handle other is =
    let parts = cond_some (is_some (object_at objects handle)) handle other is in
    let found = some_of (object_at objects handle) parts.0 in
    (found.0, found.1, parts.1)

-- the handle of what is found is there
there_found : (objects : List ObjectValue) (handle : ℕ) (y : ObjectValue) → object_at objects handle ≡ Some y → there objects handle ≡ Some handle
unfolding there
there_found objects handle y found = ap (λ o. if is_some o then Some handle else None) found

-- steps over handles lead where those over objects do
steps_keyed : (objects : List ObjectValue) (target : ObjectValue → ℕ) → AreDistinct (handles_of objects) → AreKeyed objects handle_of (step_to objects target) (λ x. object_at objects (target x))
steps_keyed objects target distinct = record { one = one_of_handle objects distinct; forth = forth; back = back }
  where
    from : (x : ObjectValue) → Contains objects x → step_to objects target (handle_of x) ≡ there objects (target x)
    from x inside = ap (option_and_then (λ y. there objects (target y))) (found_standing objects distinct x inside)

    forth : (x : ObjectValue) (h : ℕ) → Contains objects x → step_to objects target (handle_of x) ≡ Some h → (y : ObjectValue) × Contains objects y × (handle_of y ≡ h) × (object_at objects (target x) ≡ Some y)
    forth x h inside leads =
        let next = found_there objects (target x) h (sym (from x inside) ∙ leads) in
        let stands = stands_found objects (target x) next.0 next.1 in
        (next.0, stands.0, stands.1 ∙ next.2, next.1)

    back : (x y : ObjectValue) → Contains objects x → object_at objects (target x) ≡ Some y → Contains objects y × (step_to objects target (handle_of x) ≡ Some (handle_of y))
    back x y inside leads =
        let stands = stands_found objects (target x) y leads in
        (stands.0, from x inside ∙ there_found objects (target x) y leads ∙ ap Some (sym stands.1))

-- a test of the object of a handle
abbrev test_at : List ObjectValue → (ObjectValue → Bool) → ℕ → Bool
test_at objects test handle = option_map_or test (object_at objects handle) false

-- says of handles what it says of objects
tests_keyed : (objects : List ObjectValue) (test : ObjectValue → Bool) → AreDistinct (handles_of objects) → KeysAgree objects handle_of (test_at objects test) test
tests_keyed objects test distinct x inside = ap (λ o. option_map_or test o false) (found_standing objects distinct x inside)

-- what passes, if it is there, is there
pub passing_of_map_or : {A : Type 0} (test : A → Bool) (found : Option A) → option_map_or test found false ≡ true → (x : A) × (found ≡ Some x) × (test x ≡ true)
passing_of_map_or test None is = absurd (cc is)
passing_of_map_or test (Some x) is = (x, refl, is)

-- so is an object that passes by its handle
passing_there : (objects : List ObjectValue) (test : ObjectValue → Bool) → AreKeys objects handle_of (test_at objects test)
passing_there objects test handle is =
    let found = passing_of_map_or test (object_at objects handle) is in
    let stands = stands_found objects handle found.0 found.1 in
    (found.0, stands.0, stands.1)

-- an object has an owner path over handles exactly where it has one over objects
pub paths_are_of_objects : (objects : List ObjectValue) (x : ObjectValue) → AreDistinct (handles_of objects) → Contains objects x → HasOwnerPath objects x ↔ HasObjectPath objects x
unfolding owner_step root_at
paths_are_of_objects objects x distinct inside =
    path_keyed objects handle_of (step_to objects (owner_of (spaces objects))) (owner_object objects) (test_at objects (is_root (spaces objects))) (is_root (spaces objects))
    (steps_keyed objects (owner_of (spaces objects)) distinct) (tests_keyed objects (is_root (spaces objects)) distinct) x inside

-- no handle is that of a member exactly where no object is one
none_keyed : (objects : List ObjectValue) (test : ObjectValue → Bool) → AreDistinct (handles_of objects) → ((handle : ℕ) → test_at objects test handle ≡ false) ↔ ((x : ObjectValue) → Contains objects x → test x ≡ false)
none_keyed objects test distinct = (
  λ none x inside. sym (tests_keyed objects test distinct x inside) ∙ none (handle_of x),
  λ none handle. false_from_ne_true (test_at objects test handle) (λ is.
      let member = passing_there objects test handle is in
      both_ways (test member.0) (none member.0 member.1) (sym (ap (test_at objects test) (sym member.2) ∙ tests_keyed objects test distinct member.0 member.1) ∙ is)),
)

-- members have a chain over handles between such ends exactly where they have one over objects
between_are_of_objects : (objects : List ObjectValue) (header : ObjectValue) (ends : Option EndHandles) → AreDistinct (handles_of objects) → HasChainBetween objects header ends ↔ HasObjectChainBetween objects header ends
unfolding next_step member_at
between_are_of_objects objects header None distinct = none_keyed objects (is_member (spaces objects) header) distinct
between_are_of_objects objects header (Some ends) distinct =
    chain_keyed objects handle_of (step_to objects next_of) (next_object objects) (test_at objects (is_member (spaces objects) header)) (is_member (spaces objects) header)
    (λ handle. handle == ends.first) (λ handle. handle == ends.last)
    (steps_keyed objects next_of distinct) (passing_there objects (is_member (spaces objects) header)) (tests_keyed objects (is_member (spaces objects) header) distinct)

-- and so between the ends of a block
pub chains_are_of_objects : (objects : List ObjectValue) (header : ObjectValue) → AreDistinct (handles_of objects) → HasMemberChain objects header ↔ HasObjectChain objects header
chains_are_of_objects objects header distinct = between_are_of_objects objects header (ends_of header) distinct
