-- What the marks of places and of homes say while chains are sought. A rule of this project.
use Rattle.std.specs.Prelude.{◌≡◌, ◌↔◌, ℕ, Bool, true, List, Option, IsTrue}
use Rattle.dwg_chains.specs.declared.tables.ChainEnds.{ChainEnds}
use Rattle.dwg_chains.specs.Tables.{marked, lives_at, HasChainAt}

-- the members of a home are marked
abbrev pub AreSeen : List (Option ℕ) → List Bool → ℕ → Type 0
AreSeen homes seen home = (place : ℕ) → lives_at homes home place ≡ true → marked seen place ≡ true

-- a home has a chain exactly where the verdict says so and all its members are marked
abbrev pub IsJudged : List (Option ℕ) → List (Option ℕ) → List Bool → ℕ → Option ChainEnds → Bool → Type 0
IsJudged homes next seen home ends verdict = HasChainAt homes next home ends ↔ (IsTrue verdict × AreSeen homes seen home)
