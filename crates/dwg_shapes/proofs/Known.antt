-- Lists whose members are known to lie in their ranges, one by one.
use Rattle.std.proofs.Common.{sym, subst, ℕ, ◌≤◌, List, length, drop}
use Rattle.std.specs.List.{AllByRecursion}
use Rattle.std.proofs.lemmas.List.{drop_all}

-- all are known where those that are left are
abbrev pub IsKnownSoFar : {V : Type 0} → (V → Type 0) → List V → List V → Type 0
IsKnownSoFar {V} IsKnown values left = AllByRecursion IsKnown left → AllByRecursion IsKnown values

-- at the begin all are left
pub none_known : {V : Type 0} (IsKnown : V → Type 0) (values : List V) → IsKnownSoFar IsKnown values (drop 0 values)
none_known IsKnown values all = all

-- where none is left, all are known
pub all_known : {V : Type 0} (IsKnown : V → Type 0) (values : List V) (i : ℕ) → length values ≤ i → IsKnownSoFar IsKnown values (drop i values) → AllByRecursion IsKnown values
all_known IsKnown values i past so_far = so_far (subst (AllByRecursion IsKnown) (sym (drop_all i values past)) tt)
