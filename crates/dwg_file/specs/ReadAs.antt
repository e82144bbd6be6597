-- What is read of an input in which no line fails: its parts, by their places. A rule of this project.
use Rattle.std.specs.Prelude.{◌≡◌, ℕ, not, List, [], ◌∷◌, take, drop, nat_lt, None, Ok, if◌then◌else◌}
use Rattle.dwg_base.specs.Versions.{version_at}
use Rattle.std.specs.List.{filter}
use Rattle.std.specs.List.Sorted.{IsPermutation}
use Rattle.dwg_base.specs.Refusals.{first_fault}
use Rattle.dwg_classes.specs.declared.class.Class.{Class}
use Rattle.dwg_object.specs.Objects.{ObjectValue}
use Rattle.dwg_object.specs.Forms.{FormOf}
use Rattle.dwg_object.specs.FrameLines.{span_body}
use Rattle.dwg_sections.specs.declared.header.Locator.{Locator}
use Rattle.dwg_sections.specs.HeaderLines.{header_at}
use Rattle.dwg_sections.specs.FramedLines.{content_at}
use Rattle.dwg_file.specs.Contents.{OtherValue, Contents}
use Rattle.dwg_file.specs.FileLines.{ALL_LINES, FoundFrame, section_place, classes_tried, frames_tried, is_cut}
use Rattle.dwg_file.specs.Spelled.{AreAscending}

-- the unknown sections of locators, by their places
abbrev pub sections_at : List ℕ → List Locator → List OtherValue
sections_at bytes [] = []
sections_at bytes (locator ∷ locators) =
    if nat_lt locator.number 3 then sections_at bytes locators
    else record { number = locator.number; bytes = take locator.size (drop locator.place bytes) } ∷ sections_at bytes locators

-- the locators whose unknown sections don't pass the end of the input
abbrev pub whole_locators : List ℕ → List Locator → List Locator
whole_locators bytes locators = filter (λ (locator : Locator). not (is_cut bytes locator)) locators

-- each body that was found is read as an object under the classes
abbrev pub AreFormsOf : List Class → List ℕ → List FoundFrame → List ObjectValue → Type 0
AreFormsOf classes bytes [] objects = objects ≡ []
AreFormsOf classes bytes (found ∷ frames) objects =
    (object : ObjectValue) × (after : List ObjectValue) × (objects ≡ object ∷ after)
    × FormOf (version_at bytes) classes (span_body bytes found.0) object × AreFormsOf classes bytes frames after

-- a drawing is what is read of an input in which no line fails
pub record ReadsAs (drawing : Contents) (bytes : List ℕ) : Type 0 where
  pub holds : first_fault ALL_LINES bytes ≡ None
  pub version : drawing.version ≡ (header_at bytes).version
  pub lead : drawing.lead ≡ (header_at bytes).lead
  pub mark : drawing.mark ≡ (header_at bytes).mark
  pub code_page : drawing.code_page ≡ (header_at bytes).code_page
  pub variables : drawing.variables ≡ content_at bytes (section_place 0 bytes)
  pub classes : classes_tried bytes ≡ Ok drawing.classes
  pub found : List FoundFrame
  pub frames : frames_tried bytes ≡ Ok found
  pub values : List ObjectValue
  pub forms : AreFormsOf drawing.classes bytes found values
  pub objects : IsPermutation values drawing.objects
  pub ascending : AreAscending drawing.objects
  pub others : drawing.others ≡ sections_at bytes (header_at bytes).locators
