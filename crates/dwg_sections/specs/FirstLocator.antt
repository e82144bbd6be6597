-- The first locator of a number in a list of locators. A rule of this project.
use Rattle.std.specs.Prelude.{◌≡◌, ℕ, List}
use Rattle.dwg_base.specs.FirstItem.{IsFirstOf}
use Rattle.dwg_sections.specs.declared.header.Locator.{Locator}

-- the number of a locator
abbrev pub number_of : Locator → ℕ
number_of locator = locator.number

-- the first locator of the number says this place
pub record IsFirstPlace (locators : List Locator) (number place : ℕ) : Type 0 where
  pub locator : Locator
  pub before : List Locator
  pub first : IsFirstOf number_of locators number locator before
  pub says : locator.place ≡ place
