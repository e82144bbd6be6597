-- Which unknown section of a file is the first that passes its end. A rule of this project.
use Rattle.std.specs.Prelude.{◌≡◌, ◌<◌, ◌≤◌, ◌↔◌, ℕ, ◌+◌, List, ◌∷◌, ◌++◌, length, Some}
use Rattle.std.specs.List.{AllByRecursion}
use Rattle.dwg_base.specs.Refusal.{Refusal}
use Rattle.dwg_sections.specs.declared.header.Locator.{Locator}
use Rattle.dwg_sections.specs.declared.header.FileHeader.{FileHeader}
use Rattle.dwg_sections.specs.FileHeader.{BeginsWithHeader}
use Rattle.dwg_file.specs.FileLines.{sections_row}

-- a locator's section is an unknown one that has bytes, and passes the end of the input
abbrev pub PassesFile : List ℕ → Locator → Type 0
PassesFile bytes locator = (3 ≤ locator.number) × (0 < locator.size) × (length bytes < locator.place + locator.size)

-- the first locator whose unknown section passes the end of the input
pub record SectionsRefused (bytes : List ℕ) (locators : List Locator) (refusal : Refusal) : Type 0 where
  pub before : List Locator
  pub locator : Locator
  pub after : List Locator
  pub whole : locators ≡ before ++ locator ∷ after
  pub within : AllByRecursion (λ (earlier : Locator). PassesFile bytes earlier → ⊥) before
  pub passes : PassesFile bytes locator
  pub line : refusal ≡ record { line = 33; index = length before; place = locator.place }

-- the line on unknown sections refuses an input with a header exactly where one of its locators is the first whose section passes the end, and reports it
abbrev pub SectionsAreRefused : Type 0
SectionsAreRefused =
    (bytes : List ℕ) (header : FileHeader) (refusal : Refusal) → BeginsWithHeader bytes header
    → (sections_row bytes ≡ Some refusal) ↔ SectionsRefused bytes header.locators refusal
