-- How the header variables, the classes and the map of an input with a header are refused, each by the first thing in it that fails. A rule of this project.
use Rattle.std.specs.Prelude.{◌≡◌, ◌+◌, ◌↔◌, ℕ, List, Some}
use Rattle.dwg_base.specs.Bytes.{AreBytes}
use Rattle.dwg_base.specs.Refusal.{Refusal}
use Rattle.dwg_classes.specs.ClassLines.{RefusesClass}
use Rattle.dwg_objmap.specs.MapLines.{RefusesMap}
use Rattle.dwg_sections.specs.declared.framed.Framed.TheVariants.{Variables, Classes}
use Rattle.dwg_sections.specs.declared.header.FileHeader.{FileHeader}
use Rattle.dwg_sections.specs.FileHeader.{BeginsWithHeader}
use Rattle.dwg_sections.specs.Framed.{FramedAt}
use Rattle.dwg_sections.specs.FramedLines.{BEFORE_CONTENT}
use Rattle.dwg_sections.specs.FramedRefusals.{RefusesFramed}
use Rattle.dwg_sections.specs.HeaderLines.{place_of}
use Rattle.dwg_file.specs.FileLines.{variables_row, classes_section_row, classes_row, map_row}

-- the lines on the header variables refuse an input exactly as the section at their locator's place is refused
abbrev pub VariablesAreRefused : Type 0
VariablesAreRefused =
    (bytes : List ℕ) (header : FileHeader) (place : ℕ) (refusal : Refusal) → BeginsWithHeader bytes header → place_of 0 header.locators ≡ Some place
    → (variables_row bytes ≡ Some refusal) ↔ RefusesFramed Variables place bytes refusal

-- the lines on the section of the classes refuse an input exactly as the section at their locator's place is refused
abbrev pub ClassSectionIsRefused : Type 0
ClassSectionIsRefused =
    (bytes : List ℕ) (header : FileHeader) (place : ℕ) (refusal : Refusal) → BeginsWithHeader bytes header → place_of 1 header.locators ≡ Some place
    → (classes_section_row bytes ≡ Some refusal) ↔ RefusesFramed Classes place bytes refusal

-- the lines on the classes refuse an input in which their section stands exactly as the first class of its content that fails is refused
abbrev pub ClassesAreRefused : Type 0
ClassesAreRefused =
    (bytes content : List ℕ) (header : FileHeader) (place : ℕ) (refusal : Refusal) → BeginsWithHeader bytes header → place_of 1 header.locators ≡ Some place
    → FramedAt bytes place Classes content
    → (classes_row bytes ≡ Some refusal) ↔ RefusesClass (place + BEFORE_CONTENT) content refusal

-- the lines on the map refuse an input exactly as the first page or pair of the map from its locator's place that fails is refused
abbrev pub MapIsRefused : Type 0
MapIsRefused =
    (bytes : List ℕ) (header : FileHeader) (place : ℕ) (refusal : Refusal) → AreBytes bytes → BeginsWithHeader bytes header → place_of 2 header.locators ≡ Some place
    → (map_row bytes ≡ Some refusal) ↔ RefusesMap place bytes refusal
