-- The findings of a drawing stand in order, each strictly before those after it.
use Rattle.std.proofs.Common.{◌≡◌, sym, refl, ap, ◌∙◌, subst₂, inl, inr, ⊎_elim, arith}
use Rattle.std.proofs.lemmas.Bool.{not-true}
use Rattle.std.proofs.lemmas.List.Elements.{Contains-append_cases}
use Rattle.std.proofs.lemmas.List.Kept.{AllPairs-filter}
use Rattle.std.specs.Prelude.{◌≢◌, ◌<◌, ◌≤◌, suc, if◌then◌else◌, ℕ, Bool, true, false, List, [], ◌∷◌, ◌++◌, filter, not, Option, Contains, AllPairs}
use Rattle.std.specs.List.{AllByRecursion, flat_map}
use Rattle.dwg_audit.specs.declared.finding.Finding.{Finding}
use Rattle.dwg_audit.specs.Failures.{rule_number, StandsBefore}
use Rattle.dwg_audit.specs.Findings.{unless, control_findings, unmet, is_application_field, is_application, owner_slot, references, resolve_findings, claim_findings, chain_findings, path_findings, findings_of, findings}
use Rattle.dwg_audit.proofs.FindingLaws.{unless_stands, control_stands, resolve_finding}
use Rattle.dwg_graph.proofs.HeldSlots.{slots_without_owner}
use Rattle.dwg_base.proofs.OneOfAll.{one_of_all}
use Rattle.dwg_graph.specs.declared.owner.SpaceHandles.{SpaceHandles}
use Rattle.dwg_graph.specs.declared.slot.Slot.{Slot}
use Rattle.dwg_graph.specs.Graph.{is_typed}
use Rattle.dwg_graph.specs.Owners.{spaces}
use Rattle.dwg_graph.specs.Places.{Ascend, handles_of}
use Rattle.dwg_graph.specs.SlotLaws as slot_laws
use Rattle.dwg_graph.specs.SlotLaws.{SlotsAscend}
use Rattle.dwg_graph.specs.Slots.{slots}
use Rattle.dwg_graph.specs.Tests.{is_met}
use Rattle.dwg_graph.proofs.ListLemmas.{contained_in_one, pairs_none, pairs_more, pairs_joined, pairs_of_joined}
use Rattle.dwg_graph.proofs.Tests.{IsBefore, objects_ordered}
use Rattle.dwg_kinds.specs.declared.field.Field.{Field}
use Rattle.dwg_kinds.specs.declared.field.Field.TheVariants as fields
use Rattle.dwg_kinds.specs.Needs.{field_number}
use Rattle.dwg_object.specs.Objects.{ObjectValue, TypedValue, PlainValue, RawValue, handle_of}
use Rattle.dwg_object.specs.Written.{IsWhole}
use Rattle.dwg_chains.proofs.MemberLemmas.{contains_none, contains_cases}
use Rattle.dwg_chains.proofs.PlaceLaws.{place_of_contained}
use Rattle.dwg_chains.proofs.TestLemmas.{passing_of_kept}
use Rattle.dwg_audit.specs.FindingOrder.{FindingsAreOrdered}

-- the slots of each object of a drawing stand in order
abbrev SlotsAreOrdered : List ObjectValue → Type 0
SlotsAreOrdered objects = (x : ObjectValue) → Contains objects x → AllPairs slot_laws.StandsBefore (slots x)

-- the field of applications is the first
application_is_first : (field : Field) → is_application_field field ≡ true → field_number field ≡ 1
unfolding field_number
application_is_first fields.Application is = refl
application_is_first field is = absurd (cc is)

-- the field of the owner is the second
owner_is_second : field_number fields.Owner ≡ 2
unfolding field_number
owner_is_second = refl

-- each other field stands after both
others_after : (field : Field) → is_application_field field ≡ false → field ≢ fields.Owner → 2 < field_number field
unfolding field_number
others_after fields.Application is other = absurd (cc is)
others_after fields.Owner is other = absurd (other refl)
others_after field is other = omega arith

-- a slot of the field of applications stands before what is of a higher field
prefix_before : (one other : Slot) → is_application one ≡ true → 1 < field_number other.field → slot_laws.StandsBefore one other
prefix_before one other application higher =
    let first : field_number one.field ≡ 1 = application_is_first one.field application in
    let less : field_number one.field < field_number other.field = omega (arith, first, higher) in
    inl less

-- the references of an object stand in order
references_ordered : (known : Option SpaceHandles) (x : ObjectValue) → AllPairs slot_laws.StandsBefore (slots x) → AllPairs slot_laws.StandsBefore (references known x)
unfolding references
references_ordered known x ordered =
    let prefix : List Slot = filter is_application (slots x) in
    let back : List Slot = filter (λ slot. not (is_application slot)) (slots x) in
    let owner : Slot = owner_slot known x in
    let after : (slot : Slot) → Contains back slot → 2 < field_number slot.field =
    λ slot inside. let kept = passing_of_kept (λ s. not (is_application s)) (slots x) slot inside in others_after slot.field (not-true (is_application slot) kept.1) (slots_without_owner x slot kept.0) in
    pairs_joined slot_laws.StandsBefore prefix (owner ∷ back)
    (AllPairs-filter slot_laws.StandsBefore is_application (slots x) ordered)
    (pairs_more slot_laws.StandsBefore owner back
    (λ slot inside. let less : field_number fields.Owner < field_number slot.field = omega (arith, owner_is_second, after slot inside) in inl less)
    (AllPairs-filter slot_laws.StandsBefore (λ slot. not (is_application slot)) (slots x) ordered))
    (λ one other here there. prefix_before one other (passing_of_kept is_application (slots x) one here).1 (⊎_elim
    (λ same. let second : field_number fields.Owner ≡ field_number other.field = ap (λ (s : Slot). field_number s.field) same in omega (arith, owner_is_second, second))
    (λ further. omega (arith, after other further))
    (contains_cases owner back other there)))

-- at most one finding stands in order
unless_ordered : (holds : Bool) (finding : Finding) → AllPairs StandsBefore (unless holds finding)
unless_ordered true finding = pairs_none StandsBefore
unless_ordered false finding = pairs_more StandsBefore finding [] (λ other inside. absurd (contains_none other inside)) (pairs_none StandsBefore)

-- findings of two references stand as these do
resolve_before : (objects : List ObjectValue) (x : ObjectValue) (slot further : Slot) (one other : Finding) → slot_laws.StandsBefore slot further → Contains (unmet objects x slot) one → Contains (unmet objects x further) other → StandsBefore one other
resolve_before objects x slot further one other before here there =
    let first : one ≡ resolve_finding x slot = ((unless_stands (is_met objects x slot) (resolve_finding x slot) one).0 here).1 in
    let second : other ≡ resolve_finding x further = ((unless_stands (is_met objects x further) (resolve_finding x further) other).0 there).1 in
    let stand : StandsBefore (resolve_finding x slot) (resolve_finding x further) = inr (refl, inr (refl, before)) in
    subst₂ StandsBefore (sym first) (sym second) stand

-- the findings of references stand in order
resolve_ordered : (objects : List ObjectValue) (known : Option SpaceHandles) (x : ObjectValue) → AllPairs slot_laws.StandsBefore (references known x) → AllPairs StandsBefore (resolve_findings objects known x)
unfolding resolve_findings
resolve_ordered objects known x ordered =
    pairs_of_joined slot_laws.StandsBefore StandsBefore (unmet objects x) (references known x) ordered
    (λ slot inside. unless_ordered (is_met objects x slot) (resolve_finding x slot))
    (λ slot further one other inside also before here there. resolve_before objects x slot further one other before here there)

-- findings of an object by rules from a number on and below another, in their order
record Runs (x : ObjectValue) (from to : ℕ) (run : List Finding) : Type 0 where
  rises : from ≤ to
  of_object : (finding : Finding) → Contains run finding → finding.handle ≡ handle_of x
  least : (finding : Finding) → Contains run finding → from ≤ rule_number finding.rule
  most : (finding : Finding) → Contains run finding → rule_number finding.rule < to
  ordered : AllPairs StandsBefore run

-- findings by earlier rules, and those by later ones
infixr 60 ◌&◌
◌&◌ : {x : ObjectValue} {from middle to : ℕ} {ones others : List Finding} → Runs x from middle ones → Runs x middle to others → Runs x from to (ones ++ others)
◌&◌ {x} {from} {middle} {to} {ones} {others} first second = record {
  rises = omega (arith, first.rises, second.rises);
  of_object = λ finding inside. ⊎_elim (first.of_object finding) (second.of_object finding) (Contains-append_cases ones others finding inside);
  least = λ finding inside. ⊎_elim (first.least finding) (λ there. omega (arith, first.rises, second.least finding there)) (Contains-append_cases ones others finding inside);
  most = λ finding inside. ⊎_elim (λ here. omega (arith, second.rises, first.most finding here)) (second.most finding) (Contains-append_cases ones others finding inside);
  ordered = pairs_joined StandsBefore ones others first.ordered second.ordered (λ one other here there.
      inr (first.of_object one here ∙ sym (second.of_object other there), inl (omega (arith, first.most one here, second.least other there))));
}

-- at most one finding by a rule
run_of_one : (x : ObjectValue) (number : ℕ) (holds : Bool) (one : Finding) → one.handle ≡ handle_of x → rule_number one.rule ≡ number → Runs x number (suc number) (unless holds one)
run_of_one x number holds one of_object of_rule =
    let same : (finding : Finding) → Contains (unless holds one) finding → finding ≡ one = λ finding inside. ((unless_stands holds one finding).0 inside).1 in
    record {
      rises = omega arith;
      of_object = λ finding inside. ap (λ (f : Finding). f.handle) (same finding inside) ∙ of_object;
      least = λ finding inside. omega (arith, of_rule, ap (λ (f : Finding). rule_number f.rule) (same finding inside));
      most = λ finding inside. omega (arith, of_rule, ap (λ (f : Finding). rule_number f.rule) (same finding inside));
      ordered = unless_ordered holds one;
    }

-- what is found of references
resolve_run : (objects : List ObjectValue) (known : Option SpaceHandles) (x : ObjectValue) → AllPairs slot_laws.StandsBefore (slots x) → Runs x 2 3 (resolve_findings objects known x)
unfolding resolve_findings rule_number
resolve_run objects known x ordered =
    let same : (finding : Finding) → Contains (resolve_findings objects known x) finding → (slot : Slot) × (finding ≡ resolve_finding x slot) = λ finding inside.
    let one = contained_in_one (unmet objects x) (references known x) finding inside in
    (one.0, ((unless_stands (is_met objects x one.0) (resolve_finding x one.0) finding).0 one.2).1) in
    record {
      rises = omega arith;
      of_object = λ finding inside. ap (λ (f : Finding). f.handle) (same finding inside).1;
      least = λ finding inside. omega (arith, ap (λ (f : Finding). rule_number f.rule) (same finding inside).1);
      most = λ finding inside. omega (arith, ap (λ (f : Finding). rule_number f.rule) (same finding inside).1);
      ordered = resolve_ordered objects known x (references_ordered known x ordered);
    }

-- of claims
claim_run : (objects : List ObjectValue) (known : Option SpaceHandles) (x : ObjectValue) → Runs x 3 4 (claim_findings objects known x)
unfolding claim_findings rule_number
claim_run objects known x = run_of_one x 3 _ _ refl refl

-- of chains
chain_run : (objects : List ObjectValue) (known : Option SpaceHandles) (x : ObjectValue) → Runs x 4 5 (chain_findings objects known x)
unfolding chain_findings rule_number
chain_run objects known x = run_of_one x 4 _ _ refl refl

-- and of paths
path_run : (objects : List ObjectValue) (known : Option SpaceHandles) (x : ObjectValue) → Runs x 5 6 (path_findings objects known x)
unfolding path_findings rule_number
path_run objects known x = run_of_one x 5 _ _ refl refl

-- of the table of blocks there is at most one finding
control_ordered : (objects : List ObjectValue) → AllPairs StandsBefore (control_findings objects)
unfolding control_findings
control_ordered objects = unless_ordered _ _

-- findings that are taken by a test
run_taken : {x : ObjectValue} {from to : ℕ} (taken : Bool) (run : List Finding) → Runs x from to run → Runs x from to (if taken then run else [])
run_taken true run is = is
run_taken {x} {from} {to} false run is = record {
  rises = is.rises;
  of_object = λ finding inside. absurd (contains_none finding inside);
  least = λ finding inside. absurd (contains_none finding inside);
  most = λ finding inside. absurd (contains_none finding inside);
  ordered = pairs_none StandsBefore;
}

-- what is found of an object
object_run : (objects : List ObjectValue) (known : Option SpaceHandles) (x : ObjectValue) → AllPairs slot_laws.StandsBefore (slots x) → Runs x 2 6 (findings_of objects known x)
unfolding findings_of
object_run objects known x ordered = run_taken (is_typed x) _ (resolve_run objects known x ordered & claim_run objects known x & chain_run objects known x & path_run objects known x)

-- findings of objects stand in the order of these
objects_before : (objects : List ObjectValue) (x y : ObjectValue) (one other : Finding) → SlotsAreOrdered objects → Contains objects x → Contains objects y → IsBefore x y
    → Contains (findings_of objects (spaces objects) x) one → Contains (findings_of objects (spaces objects) y) other → StandsBefore one other
objects_before objects x y one other ordered inside also before here there =
    let first = object_run objects (spaces objects) x (ordered x inside) in
    let second = object_run objects (spaces objects) y (ordered y also) in
    inl (omega (arith, first.of_object one here, second.of_object other there, before))

-- the finding of the table of blocks stands before those of objects
control_before : (objects : List ObjectValue) (one other : Finding) → SlotsAreOrdered objects → ((x : ObjectValue) → Contains objects x → 0 < handle_of x)
    → Contains (control_findings objects) one → Contains (flat_map (findings_of objects (spaces objects)) objects) other → StandsBefore one other
control_before objects one other ordered positive here there =
    let null : one.handle ≡ 0 = ap (λ (f : Finding). f.handle) ((control_stands objects one).0 here).says in
    let found = contained_in_one (findings_of objects (spaces objects)) objects other there in
    let run = object_run objects (spaces objects) found.0 (ordered found.0 found.1) in
    inl (omega (arith, null, run.of_object other found.2, positive found.0 found.1))

-- findings stand in order where no handle is null and the slots of each object stand in order
findings_ordered : (objects : List ObjectValue) → Ascend (handles_of objects) → ((x : ObjectValue) → Contains objects x → 0 < handle_of x) → SlotsAreOrdered objects
    → AllPairs StandsBefore (findings objects)
unfolding findings
findings_ordered objects ascend positive ordered =
    pairs_joined StandsBefore (control_findings objects) (flat_map (findings_of objects (spaces objects)) objects)
    (control_ordered objects)
    (pairs_of_joined IsBefore StandsBefore (findings_of objects (spaces objects)) objects (objects_ordered objects ascend)
    (λ x inside. (object_run objects (spaces objects) x (ordered x inside)).ordered)
    (λ x y one other inside also before here there. objects_before objects x y one other ordered inside also before here there))
    (λ one other here there. control_before objects one other ordered positive here there)

-- no whole object has the null handle
whole_positive : (x : ObjectValue) → IsWhole x → 0 < handle_of x
whole_positive (TypedValue number handle common body) whole = whole.0.0
whole_positive (PlainValue number handle common rest refs) whole = whole.0
whole_positive (RawValue number handle bytes) whole = whole

-- one of whole objects is whole
one_whole : (objects : List ObjectValue) (x : ObjectValue) → AllByRecursion IsWhole objects → Contains objects x → IsWhole x
one_whole objects x all inside =
    let place = place_of_contained objects x inside in one_of_all IsWhole objects place.0 x all place.1

-- so they do, where the slots of whole objects ascend
pub whole_findings_ordered : SlotsAscend → FindingsAreOrdered
whole_findings_ordered ascending objects ascend whole =
    findings_ordered objects ascend (λ x inside. whole_positive x (one_whole objects x whole inside)) (λ x inside. ascending x (one_whole objects x whole inside))
