-- What is known of the ranks of places while they are sought. A rule of this project.
use Rattle.std.specs.Prelude.{◌≡◌, ◌+◌, ◌<◌, ◌⊎◌, ℕ, zero, suc, Bool, true, false, List, length, Option, Some, None}
use Rattle.dwg_chains.specs.Paths.{HasRank}
use Rattle.dwg_chains.specs.Tables.{leads, marked}
use Rattle.dwg_chains.specs.Marks.{count_unmarked}

-- so many steps lead from x to y, through no goal
unfoldable pub IsAhead : {A : Type 0} → (A → Option A) → (A → Bool) → A → ℕ → A → Type 0
IsAhead {A} step goal x zero y = x ≡ y
IsAhead {A} step goal x (suc more) y = (goal x ≡ false) × (z : A) × (step x ≡ Some z) × IsAhead step goal z more y

-- no count of steps is the rank of a place
abbrev pub HasNoRank : List (Option ℕ) → List Bool → ℕ → Type 0
HasNoRank up goals place = (rank : ℕ) → HasRank (leads up) (marked goals) place rank → ⊥

-- fewer steps than so many lead from a place to another, through no goal
abbrev pub IsOnWay : List (Option ℕ) → List Bool → ℕ → ℕ → ℕ → Type 0
IsOnWay up goals from count place = (steps : ℕ) × (steps < count) × IsAhead (leads up) (marked goals) from steps place

-- what the places that were seen and the ranks that were given say, but for so many places on the way from a place
pub record AreKnown (up : List (Option ℕ)) (goals seen : List Bool) (ranks : List (Option ℕ)) (from count : ℕ) : Type 0 where
  pub right : (place rank : ℕ) → leads ranks place ≡ Some rank → HasRank (leads up) (marked goals) place rank
  pub small : (place rank : ℕ) → leads ranks place ≡ Some rank → rank + count_unmarked seen < length seen
  pub pathless : (place : ℕ) → marked seen place ≡ true → leads ranks place ≡ None → HasNoRank up goals place ⊎ IsOnWay up goals from count place
