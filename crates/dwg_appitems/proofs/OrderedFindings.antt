-- The findings of items stand in order, each strictly before those after it.
use Rattle.std.proofs.Common.{◌≡◌, refl, sym, ap, subst₂, inl, inr, ℕ, ◌<◌, Bool, true, false, List, [], ◌∷◌, Option, Some, None, arith}
use Rattle.std.specs.Prelude.{if◌then◌else◌, Contains, AllPairs}
use Rattle.std.specs.Option.{option_map_or}
use Rattle.dwg_common.specs.declared.app_data.AppData.{AppData}
use Rattle.dwg_graph.proofs.ListLemmas.{pairs_none, pairs_more, pairs_of_joined}
use Rattle.dwg_graph.proofs.Tests.{IsBefore, objects_ordered}
use Rattle.dwg_object.specs.Objects.{ObjectValue, handle_of}
use Rattle.dwg_chains.proofs.MemberLemmas.{contains_none}
use Rattle.dwg_appitems.specs.declared.finding.AppFinding.{AppFinding}
use Rattle.dwg_appitems.specs.declared.item.AppItem.{AppItem}
use Rattle.dwg_appitems.specs.AppFailures.{StandsBefore}
use Rattle.dwg_appitems.specs.AppFindingLaws.{AppFindingsAreOrdered}
use Rattle.dwg_appitems.specs.AppFindings.{apps_of, items_in, is_met, item_findings, items_findings, apps_findings, app_findings}
use Rattle.dwg_appitems.proofs.AppFindingLaws.{finding_at, item_stands, app_reports, apps_report}
use Rattle.dwg_appitems.proofs.NumberedFindings.{pairs_of_numbered, items_numbered, of_app, apps_numbered}

-- at most one finding stands in order
unless_ordered : (holds : Bool) (finding : AppFinding) → AllPairs StandsBefore (if holds then [] else finding ∷ [])
unless_ordered true finding = pairs_none StandsBefore
unless_ordered false finding = pairs_more StandsBefore finding [] (λ other inside. absurd (contains_none other inside)) (pairs_none StandsBefore)

-- findings of two items stand as these do
items_before : (objects : List ObjectValue) (handle index n m : ℕ) (x y : AppItem) (one other : AppFinding) → n < m → Contains (item_findings objects handle index n x) one
    → Contains (item_findings objects handle index m y) other → StandsBefore one other
items_before objects handle index n m x y one other less here there =
    let stand : StandsBefore (finding_at handle index n x) (finding_at handle index m y) = inr (refl, inr (refl, less)) in
    subst₂ StandsBefore (sym ((item_stands objects handle index n x one).0 here).1) (sym ((item_stands objects handle index m y other).0 there).1) stand

-- the findings of items stand in order
items_ordered : (objects : List ObjectValue) (handle index : ℕ) (items : List AppItem) → AllPairs StandsBefore (items_findings objects handle index 0 items)
items_ordered objects handle index items =
    pairs_of_numbered StandsBefore (item_findings objects handle index) (items_findings objects handle index) (items_numbered objects handle index)
    (λ place one. unless_ordered (is_met objects one) (finding_at handle index place one)) (items_before objects handle index) items 0

-- what is found of a list, if there is one, stands in order
pairs_of_some : {A B : Type 0} (R : B → B → Type 0) (each : A → List B) (found : Option A) → ((x : A) → AllPairs R (each x)) → AllPairs R (option_map_or each found [])
pairs_of_some R each None own = pairs_none R
pairs_of_some R each (Some x) own = own x

-- findings of two application data stand as these do
apps_before : (objects : List ObjectValue) (handle n m : ℕ) (x y : AppData) (one other : AppFinding) → n < m → Contains (of_app objects handle n x) one → Contains (of_app objects handle m y) other
    → StandsBefore one other
apps_before objects handle n m x y one other less here there =
    let first = app_reports objects handle n x one here in
    let second = app_reports objects handle m y other there in
    let stand : StandsBefore (finding_at handle n first.place first.one) (finding_at handle m second.place second.one) = inr (refl, inl less) in
    subst₂ StandsBefore (sym first.says) (sym second.says) stand

-- the findings of application data stand in order
apps_ordered : (objects : List ObjectValue) (handle : ℕ) (apps : List AppData) → AllPairs StandsBefore (apps_findings objects handle 0 apps)
apps_ordered objects handle apps =
    pairs_of_numbered StandsBefore (of_app objects handle) (apps_findings objects handle) (apps_numbered objects handle)
    (λ index app. pairs_of_some StandsBefore (items_findings objects handle index 0) (items_in app.bytes) (items_ordered objects handle index))
    (apps_before objects handle) apps 0

-- a finding of an object has its handle
handle_found : (objects : List ObjectValue) (handle : ℕ) (apps : List AppData) (finding : AppFinding) → Contains (apps_findings objects handle 0 apps) finding → finding.handle ≡ handle
handle_found objects handle apps finding inside =
    let found = apps_report objects handle apps finding inside in ap (λ (f : AppFinding). f.handle) found.3.says

-- findings of objects stand in the order of these
objects_before : (objects : List ObjectValue) (x y : ObjectValue) (one other : AppFinding) → Contains objects x → Contains objects y → IsBefore x y
    → Contains (apps_findings objects (handle_of x) 0 (apps_of x)) one → Contains (apps_findings objects (handle_of y) 0 (apps_of y)) other → StandsBefore one other
objects_before objects x y one other inside also before here there =
    let less : one.handle < other.handle =
    omega (arith, before, handle_found objects (handle_of x) (apps_of x) one here, handle_found objects (handle_of y) (apps_of y) other there) in
    inl less

-- so those of all do
pub app_findings_ordered : AppFindingsAreOrdered
unfolding app_findings
app_findings_ordered objects ascend =
    pairs_of_joined IsBefore StandsBefore (λ x. apps_findings objects (handle_of x) 0 (apps_of x)) objects (objects_ordered objects ascend)
    (λ x inside. apps_ordered objects (handle_of x) (apps_of x))
    (objects_before objects)
