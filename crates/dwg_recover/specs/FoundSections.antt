-- A section that is found is whole where it is found: it is that of its locator or the first whole one, and none is found only where none is whole. A rule of this project.
use Rattle.std.proofs.Common.{◌≡◌, ℕ, ◌<◌, true, false, List, length, Option, Some, None}
use Rattle.dwg_sections.specs.declared.framed.Framed.{Framed}
use Rattle.dwg_sections.specs.HeaderLines.{place_of}
use Rattle.dwg_recover.specs.Sections.{header_of, is_whole, locators_of, number_of_section, section_found}

-- the place of a section's locator, where there is one
abbrev pub located_at : Framed → List ℕ → Option ℕ
located_at which bytes = place_of (number_of_section which) (locators_of (header_of bytes))

-- no section is whole at the place of its locator
abbrev pub IsNotLocated : Framed → List ℕ → Type 0
IsNotLocated which bytes = (at : ℕ) → located_at which bytes ≡ Some at → is_whole which bytes at ≡ false

-- a section is whole at a place: that of its locator, where it is whole there, and else the first of all
pub record IsFoundAt (which : Framed) (bytes : List ℕ) (place : ℕ) : Type 0 where
  pub whole : is_whole which bytes place ≡ true
  pub located : (at : ℕ) → located_at which bytes ≡ Some at → is_whole which bytes at ≡ true → place ≡ at
  pub first : IsNotLocated which bytes → (place < length bytes) × ((other : ℕ) → other < place → is_whole which bytes other ≡ false)

-- a section that is found is found there, and none is found only where none is whole
abbrev pub SectionsAreFirst : Type 0
SectionsAreFirst = (which : Framed) (bytes : List ℕ)
    → ((place : ℕ) → section_found which bytes ≡ Some place → IsFoundAt which bytes place)
    × (section_found which bytes ≡ None → IsNotLocated which bytes × ((other : ℕ) → other < length bytes → is_whole which bytes other ≡ false))
