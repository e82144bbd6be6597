-- Findings of one item, one list of items and one object after the other.
use Rattle.std.proofs.Common.{◌≡◌, refl, sym, ap, ◌∙◌, ℕ, ◌+◌, ◌<◌, ◌≤◌, List, [], ◌∷◌, ◌++◌, length, map, drop, get_or}
use Rattle.std.specs.Prelude.{flat_map}
use Rattle.std.proofs.lemmas.List.{append_assoc, append-nil, drop_more, drop_all}
use Rattle.dwg_appitems.specs.declared.finding.AppFinding.{AppFinding}
use Rattle.dwg_appitems.specs.declared.item.AppItem.{AppItem}
use Rattle.dwg_appitems.specs.AppFindings.{item_findings, items_findings, apps_of, apps_findings, app_findings}
use Rattle.dwg_appitems.proofs.NumberedFindings.{AreNumbered, items_numbered, of_app, apps_numbered}
use Rattle.dwg_common.specs.declared.app_data.AppData.{AppData}
use Rattle.dwg_object.specs.Objects.{ObjectValue, handle_of}

-- what is left at a place begins with what stands there
pub left_at : {A : Type 0} (all : List A) (i : ℕ) (one : A) → i < length all → one ≡ get_or all i one → drop i all ≡ one ∷ drop (i + 1) all
left_at {A} all i one inside here = drop_more all i one inside ∙ ap (λ (first : A). first ∷ drop (i + 1) all) (sym here)

-- one thing further, where what is found of things is reported by their numbers
numbered_further : {A B : Type 0} (each : ℕ → A → List B) (of_all : ℕ → List A → List B) → AreNumbered each of_all
    → (all : List A) (i : ℕ) (one : A) (before after whole : List B) → i < length all → one ≡ get_or all i one
    → before ++ of_all i (drop i all) ≡ whole → after ≡ before ++ each i one → after ++ of_all (i + 1) (drop (i + 1) all) ≡ whole
numbered_further {A} {B} each of_all numbered all i one before after whole inside here is new =
    ap (λ prefix. prefix ++ of_all (i + 1) (drop (i + 1) all)) new
    ∙ append_assoc before (each i one) (of_all (i + 1) (drop (i + 1) all))
    ∙ ap (λ rest. before ++ rest) (sym (numbered.more i one (drop (i + 1) all)) ∙ ap (of_all i) (sym (left_at all i one inside here)))
    ∙ is

-- after the last nothing is left to find
numbered_all : {A B : Type 0} (each : ℕ → A → List B) (of_all : ℕ → List A → List B) → AreNumbered each of_all → (all : List A) (i : ℕ) (found whole : List B) → length all ≤ i
    → found ++ of_all i (drop i all) ≡ whole → found ≡ whole
numbered_all {A} {B} each of_all numbered all i found whole past is =
    sym (append-nil found) ∙ ap (λ rest. found ++ rest) (sym (ap (of_all i) (drop_all i all past) ∙ numbered.none i)) ∙ is

-- one item further
pub item_further : (objects : List ObjectValue) (handle index : ℕ) (all : List AppItem) (i : ℕ) (one : AppItem) (before after whole : List AppFinding) → i < length all → one ≡ get_or all i one
    → before ++ items_findings objects handle index i (drop i all) ≡ whole → after ≡ before ++ item_findings objects handle index i one
    → after ++ items_findings objects handle index (i + 1) (drop (i + 1) all) ≡ whole
item_further objects handle index all i one before after whole inside here is new =
    numbered_further (item_findings objects handle index) (items_findings objects handle index) (items_numbered objects handle index) all i one before after whole inside here is new

-- after the last item
pub items_found : (objects : List ObjectValue) (handle index : ℕ) (all : List AppItem) (i : ℕ) (found whole : List AppFinding) → length all ≤ i
    → found ++ items_findings objects handle index i (drop i all) ≡ whole → found ≡ whole
items_found objects handle index all i found whole past is =
    numbered_all (item_findings objects handle index) (items_findings objects handle index) (items_numbered objects handle index) all i found whole past is

-- one application data further
pub app_further : (objects : List ObjectValue) (handle : ℕ) (all : List AppData) (i : ℕ) (one : AppData) (before after whole : List AppFinding) → i < length all → one ≡ get_or all i one
    → before ++ apps_findings objects handle i (drop i all) ≡ whole → after ≡ before ++ of_app objects handle i one
    → after ++ apps_findings objects handle (i + 1) (drop (i + 1) all) ≡ whole
app_further objects handle all i one before after whole inside here is new =
    numbered_further (of_app objects handle) (apps_findings objects handle) (apps_numbered objects handle) all i one before after whole inside here is new

-- after the last application data
pub apps_found : (objects : List ObjectValue) (handle : ℕ) (all : List AppData) (i : ℕ) (found whole : List AppFinding) → length all ≤ i
    → found ++ apps_findings objects handle i (drop i all) ≡ whole → found ≡ whole
apps_found objects handle all i found whole past is = numbered_all (of_app objects handle) (apps_findings objects handle) (apps_numbered objects handle) all i found whole past is

-- objects are numbered, though nothing is found by their numbers
objects_numbered : {A B V : Type 0} (value : A → V) (each : V → List B) → AreNumbered (λ place x. each (value x)) (λ place left. flat_map each (map value left))
objects_numbered value each = record { none = λ first. refl; more = λ first x xs. refl }

-- one object further
pub object_further : {A B V : Type 0} (value : A → V) (each : V → List B) (all : List A) (i : ℕ) (one : A) (before after whole : List B) → i < length all → one ≡ get_or all i one
    → before ++ flat_map each (map value (drop i all)) ≡ whole → after ≡ before ++ each (value one) → after ++ flat_map each (map value (drop (i + 1) all)) ≡ whole
object_further {A} {B} {V} value each all i one before after whole inside here is new =
    numbered_further (λ place x. each (value x)) (λ place left. flat_map each (map value left)) (objects_numbered value each) all i one before after whole inside here is new

-- after the last object
pub objects_found : {A B V : Type 0} (value : A → V) (each : V → List B) (all : List A) (i : ℕ) (found whole : List B) → length all ≤ i
    → found ++ flat_map each (map value (drop i all)) ≡ whole → found ≡ whole
objects_found {A} {B} {V} value each all i found whole past is = numbered_all (λ place x. each (value x)) (λ place left. flat_map each (map value left)) (objects_numbered value each) all i found whole past is

-- before the first object nothing is found
pub objects_begin : (objects : List ObjectValue) (found : List AppFinding) → found ≡ []
    → found ++ flat_map (λ x. apps_findings objects (handle_of x) 0 (apps_of x)) objects ≡ app_findings objects
unfolding app_findings
objects_begin objects found none = ap (λ prefix. prefix ++ flat_map (λ x. apps_findings objects (handle_of x) 0 (apps_of x)) objects) none
