-- The bytes that frames took so far, as runs. A rule of this project.
use Rattle.std.specs.Prelude.{◌≡◌, ⊤, ℕ, ◌+◌, ◌-◌, ◌^◌, ◌<◌, ◌≤◌, Bool, true, false, ◌&&◌, List, [], ◌∷◌, Option, None, Some, nat_le, nat_lt}
use Rattle.std.specs.List.{list_any, find, AllByRecursion}

-- a run of bytes: the place of its last, and of its first
abbrev pub Run : Type 0
Run = ℕ × ℕ

-- whether the bytes from a place to another share one with a run
abbrev pub meets : ℕ → ℕ → Run → Bool
meets from end run = nat_le from run.0 && nat_lt run.1 end

-- whether they share one with any of the runs
abbrev pub shares : List Run → ℕ → ℕ → Bool
shares runs from end = list_any (meets from end) runs

-- no run is empty, each lies before all after it, and the place after each is a number of 64 bits
abbrev pub AreRuns : List Run → Type 0
AreRuns [] = ⊤
AreRuns (run ∷ runs) = (run.1 ≤ run.0) × AllByRecursion (λ (after : Run). run.0 < after.1) runs × AreRuns runs × (run.0 < 2 ^ 64 - 1)

-- runs in a row, which all lie before its end
pub record IsRow (end : ℕ) (runs : List Run) : Type 0 where
  pub are : AreRuns runs
  pub before : AllByRecursion (λ (run : Run). run.0 < end) runs

-- the first of the runs whose last byte is at a place or after it
abbrev pub first_after : ℕ → List Run → Option Run
first_after place runs = find (λ (run : Run). nat_le place run.0) runs

-- whether a run, where there is one, begins before the end
abbrev pub begins_before : ℕ → Option Run → Bool
begins_before end None = false
begins_before end (Some run) = nat_lt run.1 end

-- a place from which to go on after another: each byte from the one up to the other lies in a run, and they are the same only where the byte there lies in none
pub record IsAfter (runs : List Run) (place next : ℕ) : Type 0 where
  pub after : place ≤ next
  pub taken : (other : ℕ) → place ≤ other → other < next → shares runs other (other + 1) ≡ true
  pub free : next ≡ place → shares runs place (place + 1) ≡ false
