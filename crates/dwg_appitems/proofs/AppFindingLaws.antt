-- The findings of items are exactly their references that lead nowhere.
use Rattle.std.proofs.Common.{◌≡◌, refl, sym, ap, ◌∙◌, subst, ℕ, ◌+◌, Bool, true, false, List, [], ◌∷◌, Option, Some, None, arith}
use Rattle.std.proofs.lemmas.Bool.{true≢false, and_parts, and_from, or_parts, or_from, false_from_ne_true}
use Rattle.std.proofs.lemmas.Bool.Decides.{Decides-eqb}
use Rattle.std.specs.Prelude.{◌==◌, ◌&&◌, ◌↔◌, if◌then◌else◌, Contains}
use Rattle.std.specs.List.{list_any, slice_get}
use Rattle.std.specs.Option.{option_map_or}
use Rattle.dwg_common.specs.declared.app_data.AppData.{AppData}
use Rattle.dwg_graph.proofs.ListLemmas.{empty_of_none, none_of_empty, contains_one, contained_in_one, contained_in_all}
use Rattle.dwg_kinds.specs.declared.kind.Kind.{Kind}
use Rattle.dwg_kinds.specs.declared.kind.Kind.TheVariants as kinds
use Rattle.dwg_object.specs.Objects.{ObjectValue, handle_of, kind_of}
use Rattle.dwg_chains.proofs.MemberLemmas.{contains_none}
use Rattle.dwg_chains.proofs.TestLemmas.{one_of_any, any_of_one}
use Rattle.dwg_appitems.specs.declared.finding.AppFinding.{AppFinding}
use Rattle.dwg_appitems.specs.declared.item.AppItem.{AppItem}
use Rattle.dwg_appitems.specs.declared.item.AppItem.TheVariants.{Layer, Object}
use Rattle.dwg_appitems.specs.AppFailures.{LeadsNowhere, IsAppFinding}
use Rattle.dwg_appitems.specs.AppFindingLaws.{AppFindingsStand, NothingIsFoundIfNothingFails}
use Rattle.dwg_appitems.specs.AppFindings.{apps_of, items_in, is_layer, is_met, target_of, item_findings, items_findings, apps_findings, app_findings}
use Rattle.dwg_appitems.specs.ItemLists.{AreItems}
use Rattle.dwg_appitems.proofs.ComputedItems.{computed_are, are_computed}
use Rattle.dwg_appitems.proofs.NumberedFindings.{found_of_one, found_of_all, items_numbered, of_app, apps_numbered}

-- a kind that passes is LAYER
kind_of_layer : (kind : Kind) → is_layer kind ≡ true → kind ≡ kinds.Layer
kind_of_layer kinds.Layer is = refl
kind_of_layer other is = absurd (cc is)

-- a test fails on all exactly where none passes
none_passes : (test : ObjectValue → Bool) (objects : List ObjectValue) → (list_any test objects ≡ false) ↔ ((x : ObjectValue) → Contains objects x → test x ≡ true → ⊥)
none_passes test objects = (
  λ none x inside passes. true≢false (sym (any_of_one test objects x inside passes) ∙ none),
  λ none. false_from_ne_true (list_any test objects) (λ any. let one = one_of_any test objects any in none one.0 one.1 one.2),
)

-- what an item refers to isn't there exactly where its reference leads nowhere
nowhere_decided : (objects : List ObjectValue) (one : AppItem) → (is_met objects one ≡ false) ↔ LeadsNowhere objects one
nowhere_decided objects (Layer named) =
    let none = none_passes (λ x. handle_of x == named && is_layer (kind_of x)) objects in (
      λ unmet x inside same kind. none.0 unmet x inside (and_from (handle_of x == named) (is_layer (kind_of x)) ((Decides-eqb (handle_of x) named).1 same) (ap is_layer kind)),
      λ nowhere. none.1 (λ x inside passes.
          let parts = and_parts (handle_of x == named) (is_layer (kind_of x)) passes in
          nowhere x inside ((Decides-eqb (handle_of x) named).0 parts.0) (kind_of_layer (kind_of x) parts.1)),
    )
nowhere_decided objects (Object named) =
    let none = none_passes (λ x. handle_of x == named) objects in (
      λ unmet.
          let parts = or_parts (named == 0) (list_any (λ x. handle_of x == named) objects) unmet in
          (λ null. true≢false (sym ((Decides-eqb named 0).1 null) ∙ parts.0), λ x inside same. none.0 parts.1 x inside ((Decides-eqb (handle_of x) named).1 same)),
      λ nowhere.
          or_from (named == 0) (list_any (λ x. handle_of x == named) objects) (false_from_ne_true (named == 0) (λ null. nowhere.0 ((Decides-eqb named 0).0 null)))
          (none.1 (λ x inside passes. nowhere.1 x inside ((Decides-eqb (handle_of x) named).0 passes))),
    )
nowhere_decided objects other = (λ unmet. true≢false unmet, λ nowhere. absurd nowhere)

-- what is found where a test fails
found_unless : {B : Type 0} (holds : Bool) (one found : B) → Contains (if holds then [] else one ∷ []) found ↔ ((holds ≡ false) × (found ≡ one))
found_unless true one found = (λ inside. absurd (contains_none found inside), λ is. absurd (true≢false is.0))
found_unless false one found = (λ inside. (refl, (contains_one one found).0 inside), λ is. (contains_one one found).1 is.1)

-- the finding of an item that stands there
abbrev pub finding_at : ℕ → ℕ → ℕ → AppItem → AppFinding
finding_at handle index place one = record { handle = handle; index = index; item = place; target = target_of one }

-- what is found of one item
pub item_stands : (objects : List ObjectValue) (handle index place : ℕ) (one : AppItem) (finding : AppFinding)
    → Contains (item_findings objects handle index place one) finding ↔ (LeadsNowhere objects one × (finding ≡ finding_at handle index place one))
item_stands objects handle index place one finding =
    let found = found_unless (is_met objects one) (finding_at handle index place one) finding in (
      λ inside. let is = found.0 inside in ((nowhere_decided objects one).0 is.0, is.1),
      λ is. found.1 ((nowhere_decided objects one).1 is.0, is.1),
    )

-- what is found of the items that bytes are, if they are any
found_of_items : {B : Type 0} (each : List AppItem → List B) (bytes : List ℕ) (y : B) → Contains (option_map_or each (items_in bytes) []) y
    → (items : List AppItem) × AreItems items bytes × Contains (each items) y
found_of_items {B} each bytes y = go (items_in bytes) refl
  where
    go : (found : Option (List AppItem)) → items_in bytes ≡ found → Contains (option_map_or each found []) y → (items : List AppItem) × AreItems items bytes × Contains (each items) y
    go None is inside = absurd (contains_none y inside)
    go (Some items) is inside = (items, computed_are bytes items is, inside)

-- a finding is found of application data: of one of the items that its bytes are
pub record IsFoundOf (objects : List ObjectValue) (handle index : ℕ) (app : AppData) (finding : AppFinding) : Type 0 where
  pub items : List AppItem
  pub are : AreItems items app.bytes
  pub place : ℕ
  pub one : AppItem
  pub at : slice_get items place ≡ Some one
  pub nowhere : LeadsNowhere objects one
  pub says : finding ≡ finding_at handle index place one

-- so is what is found of it
pub app_reports : (objects : List ObjectValue) (handle index : ℕ) (app : AppData) (finding : AppFinding) → Contains (of_app objects handle index app) finding → IsFoundOf objects handle index app finding
app_reports objects handle index app finding inside =
    let all = found_of_items (items_findings objects handle index 0) app.bytes finding inside in
    let one = found_of_one (item_findings objects handle index) (items_findings objects handle index) (items_numbered objects handle index) all.0 0 finding all.2 in
    let same : 0 + one.0 ≡ one.0 = omega arith in
    let is = (item_stands objects handle index one.0 one.1 finding).0 (subst (λ (n : ℕ). Contains (item_findings objects handle index n one.1) finding) same one.3) in
    record { items = all.0; are = all.1; place = one.0; one = one.1; at = one.2; nowhere = is.0; says = is.1 }

-- and what is found of it is all that
app_stands : (objects : List ObjectValue) (handle index : ℕ) (app : AppData) (finding : AppFinding) → IsFoundOf objects handle index app finding → Contains (of_app objects handle index app) finding
app_stands objects handle index app finding is =
    let same : is.place ≡ 0 + is.place = omega arith in
    let here : Contains (item_findings objects handle index (0 + is.place) is.one) finding =
    subst (λ (n : ℕ). Contains (item_findings objects handle index n is.one) finding) same ((item_stands objects handle index is.place is.one finding).1 (is.nowhere, is.says)) in
    subst (λ (found : Option (List AppItem)). Contains (option_map_or (items_findings objects handle index 0) found []) finding) (sym (are_computed app.bytes is.items is.are))
    (found_of_all (item_findings objects handle index) (items_findings objects handle index) (items_numbered objects handle index) is.items 0 is.place is.one finding is.at here)

-- what is found of the application data of an object
pub apps_report : (objects : List ObjectValue) (handle : ℕ) (apps : List AppData) (finding : AppFinding) → Contains (apps_findings objects handle 0 apps) finding
    → (index : ℕ) × (app : AppData) × (slice_get apps index ≡ Some app) × IsFoundOf objects handle index app finding
apps_report objects handle apps finding inside =
    let one = found_of_one (of_app objects handle) (apps_findings objects handle) (apps_numbered objects handle) apps 0 finding inside in
    let same : 0 + one.0 ≡ one.0 = omega arith in
    (one.0, one.1, one.2, app_reports objects handle one.0 one.1 finding (subst (λ (n : ℕ). Contains (of_app objects handle n one.1) finding) same one.3))

-- and that is all
apps_stand : (objects : List ObjectValue) (handle index : ℕ) (apps : List AppData) (app : AppData) (finding : AppFinding) → slice_get apps index ≡ Some app → IsFoundOf objects handle index app finding
    → Contains (apps_findings objects handle 0 apps) finding
apps_stand objects handle index apps app finding here is =
    let same : index ≡ 0 + index = omega arith in
    found_of_all (of_app objects handle) (apps_findings objects handle) (apps_numbered objects handle) apps 0 index app finding here
    (subst (λ (n : ℕ). Contains (of_app objects handle n app) finding) same (app_stands objects handle index app finding is))

-- what is found of an object is a finding of all
stands_found : (objects : List ObjectValue) (x : ObjectValue) (finding : AppFinding) → Contains objects x → Contains (apps_findings objects (handle_of x) 0 (apps_of x)) finding → IsAppFinding objects finding
stands_found objects x finding among inside =
    let found = apps_report objects (handle_of x) (apps_of x) finding inside in
    let is = found.3 in
    subst (IsAppFinding objects) (sym is.says)
    (record {
      one = is.one;
      stands = record { object = x; among = among; owner = refl; app = found.1; here = found.2; items = is.items; are = is.are; at = is.at };
      nowhere = is.nowhere;
      target = refl;
    })

-- and each finding of all is found of its object
found_standing : (objects : List ObjectValue) (finding : AppFinding) → (is : IsAppFinding objects finding) → Contains (apps_findings objects (handle_of is.stands.object) 0 (apps_of is.stands.object)) finding
found_standing objects finding is =
    let there = is.stands in
    let says : finding ≡ finding_at finding.handle finding.index finding.item is.one =
    ap (λ (target : ℕ). let with_target : AppFinding = record { handle = finding.handle; index = finding.index; item = finding.item; target = target } in with_target) is.target in
    subst (λ (handle : ℕ). Contains (apps_findings objects handle 0 (apps_of there.object)) finding) (sym there.owner)
    (apps_stand objects finding.handle finding.index (apps_of there.object) there.app finding there.here
    (record { items = there.items; are = there.are; place = finding.item; one = is.one; at = there.at; nowhere = is.nowhere; says = says }))

-- so they are
pub app_findings_stand : AppFindingsStand
unfolding app_findings
app_findings_stand objects finding = (
  λ inside.
      let one = contained_in_one (λ x. apps_findings objects (handle_of x) 0 (apps_of x)) objects finding inside in
      stands_found objects one.0 finding one.1 one.2,
  λ is. contained_in_all (λ x. apps_findings objects (handle_of x) 0 (apps_of x)) objects is.stands.object finding is.stands.among (found_standing objects finding is),
)

-- and there are none exactly where nothing fails
pub none_if_nothing_fails : NothingIsFoundIfNothingFails
none_if_nothing_fails objects = (
  λ none finding is. none_of_empty (app_findings objects) finding none ((app_findings_stand objects finding).1 is),
  λ none. empty_of_none (app_findings objects) (λ finding inside. none finding ((app_findings_stand objects finding).0 inside)),
)
