-- Where the header variables and the classes are found: at the place of their locator, or else where the first whole section stands. A rule of this project, over the sections of the Open Design Specification, "R13 to R2000 file layout".
use Rattle.std.specs.Prelude.{ℕ, ◌+◌, Bool, true, ◌&&◌, List, [], ◌∷◌, length, find, Option, Some, None, if◌then◌else◌}
use Rattle.std.specs.List.{range_with_len}
use Rattle.std.specs.Option.{is_none, option_and_then, option_or}
use Rattle.std.specs.Result.{is_ok, result_unwrap_or}
use Rattle.dwg_base.specs.Refusals.{first_fault}
use Rattle.dwg_classes.specs.declared.class.Class.{Class}
use Rattle.dwg_classes.specs.ClassLines.{tried_classes}
use Rattle.dwg_file.specs.FileLines.{is_cut}
use Rattle.dwg_sections.specs.declared.framed.Framed.{Framed}
use Rattle.dwg_sections.specs.declared.framed.Framed.TheVariants as framed
use Rattle.dwg_sections.specs.declared.header.FileHeader.{FileHeader}
use Rattle.dwg_sections.specs.declared.header.Locator.{Locator}
use Rattle.dwg_sections.specs.FramedLines.{BEFORE_CONTENT, content_at, framed_lines}
use Rattle.dwg_sections.specs.HeaderLines.{HEADER_LINES, header_at, place_of}
use Rattle.dwg_recover.specs.declared.loss.Loss.{Loss}
use Rattle.dwg_recover.specs.declared.loss.Loss.TheVariants.{Section}

-- the file header, where no line on it fails
unfoldable pub header_of : List ℕ → Option FileHeader
header_of bytes = if is_none (first_fault HEADER_LINES bytes) then Some (header_at bytes) else None

-- the locators of a header; without one there are none
abbrev pub locators_of : Option FileHeader → List Locator
locators_of None = []
locators_of (Some header) = header.locators

-- the classes that the content of the section at a place is cut into
abbrev pub classes_in : List ℕ → ℕ → List Class
classes_in bytes place = result_unwrap_or (tried_classes (place + BEFORE_CONTENT) (content_at bytes place)) []

-- whether the content of a section at a place is what it has to be: that of the classes is cut into classes
abbrev pub has_content : Framed → List ℕ → ℕ → Bool
has_content framed.Variables bytes place = true
has_content framed.Classes bytes place = is_ok (tried_classes (place + BEFORE_CONTENT) (content_at bytes place))

-- whether a section is whole at a place: no line on it fails there
unfoldable pub is_whole : Framed → List ℕ → ℕ → Bool
is_whole which bytes place = is_none (first_fault (framed_lines which place) bytes) && has_content which bytes place

-- the first place at which a section is whole
unfoldable pub first_whole : Framed → List ℕ → Option ℕ
first_whole which bytes = find (is_whole which bytes) (range_with_len 0 (length bytes))

-- the number of a section's locator
abbrev pub number_of_section : Framed → ℕ
number_of_section framed.Variables = 0
number_of_section framed.Classes = 1

-- a place, where a section is whole there
abbrev pub whole_at : Framed → List ℕ → ℕ → Option ℕ
whole_at which bytes place = if is_whole which bytes place then Some place else None

-- where a section is found: at the place of its locator, where it is whole there, or else at the first place where it is
unfoldable pub section_found : Framed → List ℕ → Option ℕ
section_found which bytes =
    option_or (option_and_then (whole_at which bytes) (place_of (number_of_section which) (locators_of (header_of bytes)))) (first_whole which bytes)

-- the header variables of a section at a place; without one there are none
abbrev pub variables_of : List ℕ → Option ℕ → List ℕ
variables_of bytes None = []
variables_of bytes (Some place) = content_at bytes place

-- the classes of a section at a place; without one there are none
abbrev pub classes_of : List ℕ → Option ℕ → List Class
classes_of bytes None = []
classes_of bytes (Some place) = classes_in bytes place

-- a loss, if it is one
abbrev pub lost_if : Bool → Loss → List Loss
lost_if lost loss = if lost then loss ∷ [] else []

-- the unknown sections of locators that pass the end of the input
abbrev pub lost_sections : List ℕ → List Locator → List Loss
lost_sections bytes [] = []
lost_sections bytes (locator ∷ locators) =
    if is_cut bytes locator then Section locator.number locator.place ∷ lost_sections bytes locators else lost_sections bytes locators
