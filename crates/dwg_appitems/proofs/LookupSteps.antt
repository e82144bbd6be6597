-- The steps of lookups, one after the other.
use Rattle.std.proofs.Common.{◌≡◌, refl, sym, ap, ◌∙◌, ℕ, ◌+◌, ◌*◌, ◌^◌, ◌<◌, ◌≤◌, List, [], ◌∷◌, length, map, drop, get_or, Option, Some, arith}
use Rattle.std.specs.List.{sum_by}
use Rattle.std.specs.Option.{option_map_or}
use Rattle.std.proofs.lemmas.List.Sums.{sum_by-cons}
use Rattle.dwg_appitems.specs.ItemLookups.{TakeAtMost, all_item_references, app_references, item_references}
use Rattle.dwg_appitems.specs.declared.item.AppItem.{AppItem}
use Rattle.dwg_appitems.specs.AppFindings.{apps_of, items_in}
use Rattle.dwg_appitems.proofs.FindingOrder.{left_at}
use Rattle.dwg_appitems.proofs.HandleBounds.{as_many}
use Rattle.dwg_common.specs.declared.app_data.AppData.{AppData}
use Rattle.dwg_graph.specs.Places.{handles_of}
use Rattle.dwg_object.specs.declared.object.Object as declared
use Rattle.dwg_object.specs.Objects.{value_of}

-- what takes no step is no more than any lookups
pub none_taken : (count lookups before : ℕ) → TakeAtMost count lookups before before
none_taken count lookups before k fits = omega arith

-- an index has as many handles as there are objects
pub taken_by_index : (objects : List declared.Object) (known : List ℕ) (lookups before after : ℕ) → known ≡ handles_of (map value_of objects)
    → TakeAtMost (length known) lookups before after → TakeAtMost (length objects) lookups before after
taken_by_index objects known lookups before after same taken k fits = taken k (omega (arith, ap length same, as_many objects, fits))

-- so far so many steps are taken that with the lookups that are left they are no more than those of all lookups
abbrev pub LeaveAtMost : ℕ → ℕ → ℕ → ℕ → ℕ → Type 0
LeaveAtMost count left whole before now = (k : ℕ) → count < 2 ^ k → now + left * k ≤ before + whole * k

-- at the begin all are left
pub all_left : (count whole before : ℕ) → LeaveAtMost count whole whole before before
all_left count whole before k fits = omega arith

-- those of one thing further
pub taken_further : {A : Type 0} (cost : A → ℕ) (count : ℕ) (all : List A) (i : ℕ) (one : A) (whole before mid after : ℕ) → i < length all → one ≡ get_or all i one
    → LeaveAtMost count (sum_by cost (drop i all)) whole before mid → TakeAtMost count (cost one) mid after → LeaveAtMost count (sum_by cost (drop (i + 1) all)) whole before after
taken_further {A} cost count all i one whole before mid after inside here leaves taken k fits =
    let others : ℕ = sum_by cost (drop (i + 1) all) in
    let left : sum_by cost (drop i all) ≡ cost one + others = ap (sum_by cost) (left_at all i one inside here) ∙ sum_by-cons cost one (drop (i + 1) all) in
    let sum : (cost one + others) * k ≡ cost one * k + others * k = grind arith in
    omega (arith, ap (λ n. n * k) left, sum, leaves k fits, taken k fits)

-- whatever is left, no more are taken than those of all
pub taken_so_far : (count left whole before now : ℕ) → LeaveAtMost count left whole before now → TakeAtMost count whole before now
taken_so_far count left whole before now leaves k fits = omega (arith, leaves k fits)

-- so of the last that was begun
pub taken_with : {A : Type 0} (cost : A → ℕ) (count : ℕ) (all : List A) (i : ℕ) (one : A) (whole before mid after : ℕ) → i < length all → one ≡ get_or all i one
    → LeaveAtMost count (sum_by cost (drop i all)) whole before mid → TakeAtMost count (cost one) mid after → TakeAtMost count whole before after
taken_with {A} cost count all i one whole before mid after inside here leaves taken =
    taken_so_far count (sum_by cost (drop (i + 1) all)) whole before after (taken_further cost count all i one whole before mid after inside here leaves taken)

-- the items that the bytes of application data are refer by so many handles
pub references_known : (app : AppData) (bytes : List ℕ) (found : Option (List AppItem)) (items own : List AppItem) → bytes ≡ app.bytes → found ≡ items_in bytes → found ≡ Some items → own ≡ items
    → sum_by item_references own ≡ app_references app
unfolding app_references
references_known app bytes found items own whole known is same =
    ap (sum_by item_references) same ∙ ap (λ (all : Option (List AppItem)). option_map_or (sum_by item_references) all 0) (sym is ∙ known ∙ ap items_in whole)

-- sums over what things are made into
sum_of_map : {A B : Type 0} (value : A → B) (cost : B → ℕ) (all : List A) → sum_by cost (map value all) ≡ sum_by (λ x. cost (value x)) all
sum_of_map {A} {B} value cost [] = refl
sum_of_map {A} {B} value cost (x ∷ all) =
    sum_by-cons cost (value x) (map value all) ∙ ap (λ n. cost (value x) + n) (sum_of_map value cost all) ∙ sym (sum_by-cons (λ y. cost (value y)) x all)

-- the lookups of an object
abbrev pub object_references : declared.Object → ℕ
object_references object = sum_by app_references (apps_of (value_of object))

-- those of all objects are theirs
pub objects_referring : (objects : List declared.Object) → sum_by object_references objects ≡ all_item_references (map value_of objects)
unfolding all_item_references
objects_referring objects = sym (sum_of_map value_of (λ x. sum_by app_references (apps_of x)) objects)
