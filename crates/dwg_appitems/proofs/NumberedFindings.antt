-- What is found of things that are numbered: each part is found of one thing, and by its number.
use Rattle.std.proofs.Common.{◌≡◌, refl, sym, subst, ⊎_elim, ℕ, zero, suc, ◌+◌, ◌<◌, List, [], ◌∷◌, ◌++◌, Some, arith}
use Rattle.std.proofs.lemmas.List.Elements.{Contains-append_left, Contains-append_right, Contains-append_cases}
use Rattle.std.proofs.lemmas.Option.{same_Some}
use Rattle.std.specs.Prelude.{Contains, AllPairs}
use Rattle.std.specs.List.{slice_get}
use Rattle.std.specs.Option.{option_map_or}
use Rattle.dwg_common.specs.declared.app_data.AppData.{AppData}
use Rattle.dwg_graph.proofs.ListLemmas.{none_of_empty, pairs_none, pairs_joined}
use Rattle.dwg_object.specs.Objects.{ObjectValue}
use Rattle.dwg_appitems.specs.declared.finding.AppFinding.{AppFinding}
use Rattle.dwg_appitems.specs.AppFindings.{items_in, item_findings, items_findings, apps_findings}

-- what is found of all things is what is found of each by its number, of which the first has this one
pub record AreNumbered {A B : Type 0} (each : ℕ → A → List B) (of_all : ℕ → List A → List B) : Type 0 where
  pub none : (first : ℕ) → of_all first [] ≡ []
  pub more : (first : ℕ) (x : A) (xs : List A) → of_all first (x ∷ xs) ≡ each first x ++ of_all (first + 1) xs

-- what is found of all is found of one
pub found_of_one : {A B : Type 0} (each : ℕ → A → List B) (of_all : ℕ → List A → List B) → AreNumbered each of_all → (all : List A) (first : ℕ) (y : B) → Contains (of_all first all) y
    → (i : ℕ) × (x : A) × (slice_get all i ≡ Some x) × Contains (each (first + i) x) y
found_of_one each of_all numbered [] first y inside = absurd (none_of_empty (of_all first []) y (numbered.none first) inside)
found_of_one {A} {B} each of_all numbered (x ∷ xs) first y inside = ⊎_elim
    (λ here. let same : first ≡ first + zero = omega arith in (zero, x, refl, subst (λ (n : ℕ). Contains (each n x) y) same here))
    (λ after. let one = found_of_one each of_all numbered xs (first + 1) y after in
    let same : first + 1 + one.0 ≡ first + suc one.0 = omega arith in
    (suc one.0, one.1, one.2, subst (λ (n : ℕ). Contains (each n one.1) y) same one.3))
    (Contains-append_cases (each first x) (of_all (first + 1) xs) y (subst (λ (those : List B). Contains those y) (numbered.more first x xs) inside))

-- and what is found of one is found of all
pub found_of_all : {A B : Type 0} (each : ℕ → A → List B) (of_all : ℕ → List A → List B) → AreNumbered each of_all → (all : List A) (first i : ℕ) (x : A) (y : B) → slice_get all i ≡ Some x
    → Contains (each (first + i) x) y → Contains (of_all first all) y
found_of_all each of_all numbered [] first i x y at held = absurd (cc at)
found_of_all {A} {B} each of_all numbered (z ∷ zs) first zero x y at held =
    let same : first + zero ≡ first = omega arith in
    let here : Contains (each first z) y =
    subst (λ (one : A). Contains (each first one) y) (sym (same_Some z x at)) (subst (λ (n : ℕ). Contains (each n x) y) same held) in
    subst (λ (those : List B). Contains those y) (sym (numbered.more first z zs)) (Contains-append_left (each first z) (of_all (first + 1) zs) y here)
found_of_all {A} {B} each of_all numbered (z ∷ zs) first (suc i) x y at held =
    let same : first + suc i ≡ first + 1 + i = omega arith in
    let after : Contains (of_all (first + 1) zs) y =
    found_of_all each of_all numbered zs (first + 1) i x y at (subst (λ (n : ℕ). Contains (each n x) y) same held) in
    subst (λ (those : List B). Contains those y) (sym (numbered.more first z zs)) (Contains-append_right (each first z) (of_all (first + 1) zs) y after)

-- findings are related where those of each thing are, and those of a thing to those of each after it
pub pairs_of_numbered : {A B : Type 0} (R : B → B → Type 0) (each : ℕ → A → List B) (of_all : ℕ → List A → List B) → AreNumbered each of_all
    → ((n : ℕ) (x : A) → AllPairs R (each n x)) → ((n m : ℕ) (x y : A) (z w : B) → n < m → Contains (each n x) z → Contains (each m y) w → R z w)
    → (all : List A) (first : ℕ) → AllPairs R (of_all first all)
pairs_of_numbered {A} {B} R each of_all numbered own across [] first = subst (λ (those : List B). AllPairs R those) (sym (numbered.none first)) (pairs_none R)
pairs_of_numbered {A} {B} R each of_all numbered own across (x ∷ xs) first =
    subst (λ (those : List B). AllPairs R those) (sym (numbered.more first x xs))
    (pairs_joined R (each first x) (of_all (first + 1) xs) (own first x) (pairs_of_numbered R each of_all numbered own across xs (first + 1))
    (λ z w here there.
    let one = found_of_one each of_all numbered xs (first + 1) w there in
    across first (first + 1 + one.0) x one.1 z w (omega arith) here one.3))

-- items are numbered
pub items_numbered : (objects : List ObjectValue) (handle index : ℕ) → AreNumbered (item_findings objects handle index) (items_findings objects handle index)
unfolding items_findings
items_numbered objects handle index = record { none = λ first. refl; more = λ first x xs. refl }

-- what is found of one application data
abbrev pub of_app : List ObjectValue → ℕ → ℕ → AppData → List AppFinding
of_app objects handle index app = option_map_or (items_findings objects handle index 0) (items_in app.bytes) []

-- application data is numbered
pub apps_numbered : (objects : List ObjectValue) (handle : ℕ) → AreNumbered (of_app objects handle) (apps_findings objects handle)
unfolding apps_findings
apps_numbered objects handle = record { none = λ first. refl; more = λ first x xs. refl }
