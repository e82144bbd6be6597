-- What is known of the handles of a list of pairs. A rule of this project.
use Rattle.std.specs.Prelude.{◌≡◌, ℕ, Bool, true, false, List, [], nat_lt}
use Rattle.std.specs.Ordering.{nat_cmp}
use Rattle.std.specs.BTreeSet as set
use Rattle.dwg_objmap.specs.declared.pair.Pair.{Pair}
use Rattle.dwg_objmap.specs.MapLines.{has_handle}

-- the set has just the handles of the pairs
pub record HasHandles (handles : set.BTreeSet ℕ) (pairs : List Pair) : Type 0 where
  pub same : (handle : ℕ) → set.contains nat_cmp handles handle ≡ has_handle pairs handle

-- the set has no handle yet, and no pair has one above the highest
pub record Ascends (highest : ℕ) (handles : set.BTreeSet ℕ) (pairs : List Pair) : Type 0 where
  pub none : HasHandles handles []
  pub above : (handle : ℕ) → nat_lt highest handle ≡ true → has_handle pairs handle ≡ false

-- while the pairs ascend none is above the highest, else the set has them all
abbrev pub Knows : Bool → ℕ → set.BTreeSet ℕ → List Pair → Type 0
Knows true highest handles pairs = Ascends highest handles pairs
Knows false highest handles pairs = HasHandles handles pairs
