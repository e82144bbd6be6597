-- No line of the table fails exactly where none on each part of the file does. A rule of this project.
use Rattle.std.proofs.Common.{◌≡◌, refl, ◌∙◌, ap, ℕ, List, [], ◌∷◌, ◌++◌, Option, Some, None}
use Rattle.std.specs.Prelude.{Ok, Err}
use Rattle.std.specs.Option.{option_or}
use Rattle.dwg_base.specs.Refusals.{RefusalRow, Tried, first_fault, fault_of}
use Rattle.dwg_base.specs.Refusal.{Refusal}
use Rattle.dwg_sections.specs.declared.framed.Framed.TheVariants.{Variables, Classes}
use Rattle.dwg_sections.specs.HeaderLines.{HEADER_LINES, header_at}
use Rattle.dwg_sections.specs.FramedLines.{framed_lines}
use Rattle.dwg_file.specs.FileLines.{ALL_LINES, section_place, variables_row, classes_section_row, classes_tried, classes_row, map_tried, map_row, frames_tried, frames_row, first_cut, sections_row}

-- where neither of two refuses, both are none
or_none : (one other : Option Refusal) → option_or one other ≡ None → (one ≡ None) × (other ≡ None)
or_none None other none = (refl, none)
or_none (Some refusal) other none = absurd cc

-- rows that all hold, and more after them, hold alike
pub rows_both : (rows others : List RefusalRow) (bytes : List ℕ) → first_fault (rows ++ others) bytes ≡ None → (first_fault rows bytes ≡ None) × (first_fault others bytes ≡ None)
rows_both [] others bytes none = (refl, none)
rows_both (row ∷ rows) others bytes none =
    let both = or_none (row bytes) (first_fault (rows ++ others) bytes) none in
    let more = rows_both rows others bytes both.1 in
    (ap (λ refused. option_or refused (first_fault rows bytes)) both.0 ∙ more.0, more.1)

-- and rows that hold alike all hold
pub both_rows : (rows others : List RefusalRow) (bytes : List ℕ) → first_fault rows bytes ≡ None → first_fault others bytes ≡ None → first_fault (rows ++ others) bytes ≡ None
both_rows [] others bytes none more = more
both_rows (row ∷ rows) others bytes none more =
    let both = or_none (row bytes) (first_fault rows bytes) none in
    ap (λ refused. option_or refused (first_fault (rows ++ others) bytes)) both.0 ∙ both_rows rows others bytes both.1 more

-- what was tried and isn't refused has a value
pub ok_of_fault : {V : Type 0} (tried : Tried V) → fault_of tried ≡ None → (value : V) × (tried ≡ Ok value)
ok_of_fault (Ok value) none = (value, refl)
ok_of_fault (Err refusal) none = absurd cc

-- no line on any part fails
pub record EachHolds (bytes : List ℕ) : Type 0 where
  pub header : first_fault HEADER_LINES bytes ≡ None
  pub variables : first_fault (framed_lines Variables (section_place 0 bytes)) bytes ≡ None
  pub class_section : first_fault (framed_lines Classes (section_place 1 bytes)) bytes ≡ None
  pub classes : fault_of (classes_tried bytes) ≡ None
  pub map : fault_of (map_tried bytes) ≡ None
  pub frames : fault_of (frames_tried bytes) ≡ None
  pub sections : first_cut bytes 0 (header_at bytes).locators ≡ None

-- where no line fails, none on any part does
pub each_holds : (bytes : List ℕ) → first_fault ALL_LINES bytes ≡ None → EachHolds bytes
unfolding variables_row classes_section_row classes_row map_row frames_row sections_row
each_holds bytes none =
    let header = rows_both HEADER_LINES (variables_row ∷ classes_section_row ∷ classes_row ∷ map_row ∷ frames_row ∷ sections_row ∷ []) bytes none in
    let variables = or_none (variables_row bytes) (first_fault (classes_section_row ∷ classes_row ∷ map_row ∷ frames_row ∷ sections_row ∷ []) bytes) header.1 in
    let class_section = or_none (classes_section_row bytes) (first_fault (classes_row ∷ map_row ∷ frames_row ∷ sections_row ∷ []) bytes) variables.1 in
    let classes = or_none (classes_row bytes) (first_fault (map_row ∷ frames_row ∷ sections_row ∷ []) bytes) class_section.1 in
    let map = or_none (map_row bytes) (first_fault (frames_row ∷ sections_row ∷ []) bytes) classes.1 in
    let frames = or_none (frames_row bytes) (first_fault (sections_row ∷ []) bytes) map.1 in
    let sections = or_none (sections_row bytes) None frames.1 in
    record {
      header = header.0;
      variables = variables.0;
      class_section = class_section.0;
      classes = classes.0;
      map = map.0;
      frames = frames.0;
      sections = sections.0;
    }

-- a row that holds before rows that hold
row_more : (row : RefusalRow) (rows : List RefusalRow) (bytes : List ℕ) → row bytes ≡ None → first_fault rows bytes ≡ None → first_fault (row ∷ rows) bytes ≡ None
row_more row rows bytes none more = ap (λ refused. option_or refused (first_fault rows bytes)) none ∙ more

-- and where none on any part fails, no line does
pub all_hold : (bytes : List ℕ) → EachHolds bytes → first_fault ALL_LINES bytes ≡ None
unfolding variables_row classes_section_row classes_row map_row frames_row sections_row
all_hold bytes each =
    both_rows HEADER_LINES (variables_row ∷ classes_section_row ∷ classes_row ∷ map_row ∷ frames_row ∷ sections_row ∷ []) bytes each.header
    (row_more variables_row (classes_section_row ∷ classes_row ∷ map_row ∷ frames_row ∷ sections_row ∷ []) bytes each.variables
    (row_more classes_section_row (classes_row ∷ map_row ∷ frames_row ∷ sections_row ∷ []) bytes each.class_section
    (row_more classes_row (map_row ∷ frames_row ∷ sections_row ∷ []) bytes each.classes
    (row_more map_row (frames_row ∷ sections_row ∷ []) bytes each.map
    (row_more frames_row (sections_row ∷ []) bytes each.frames
    (row_more sections_row [] bytes each.sections refl))))))

-- no line before those on frames fails
pub record EachBefore (bytes : List ℕ) : Type 0 where
  pub header : first_fault HEADER_LINES bytes ≡ None
  pub variables : first_fault (framed_lines Variables (section_place 0 bytes)) bytes ≡ None
  pub class_section : first_fault (framed_lines Classes (section_place 1 bytes)) bytes ≡ None
  pub classes : fault_of (classes_tried bytes) ≡ None
  pub map : fault_of (map_tried bytes) ≡ None

-- a row that holds leaves to those after it what is reported
row_passes : (row : RefusalRow) (rows : List RefusalRow) (bytes : List ℕ) → row bytes ≡ None → first_fault (row ∷ rows) bytes ≡ first_fault rows bytes
row_passes row rows bytes none = ap (λ refused. option_or refused (first_fault rows bytes)) none

-- and so do rows that hold
rows_pass : (rows others : List RefusalRow) (bytes : List ℕ) → first_fault rows bytes ≡ None → first_fault (rows ++ others) bytes ≡ first_fault others bytes
rows_pass [] others bytes none = refl
rows_pass (row ∷ rows) others bytes none =
    let both = or_none (row bytes) (first_fault rows bytes) none in
    row_passes row (rows ++ others) bytes both.0 ∙ rows_pass rows others bytes both.1

-- so the first line that fails is the one on frames where none before it fails
pub frames_first : (bytes : List ℕ) (refusal : Refusal) → EachBefore bytes → frames_row bytes ≡ Some refusal → first_fault ALL_LINES bytes ≡ Some refusal
unfolding variables_row classes_section_row classes_row map_row
frames_first bytes refusal each fails =
    rows_pass HEADER_LINES (variables_row ∷ classes_section_row ∷ classes_row ∷ map_row ∷ frames_row ∷ sections_row ∷ []) bytes each.header
    ∙ row_passes variables_row (classes_section_row ∷ classes_row ∷ map_row ∷ frames_row ∷ sections_row ∷ []) bytes each.variables
    ∙ row_passes classes_section_row (classes_row ∷ map_row ∷ frames_row ∷ sections_row ∷ []) bytes each.class_section
    ∙ row_passes classes_row (map_row ∷ frames_row ∷ sections_row ∷ []) bytes each.classes
    ∙ row_passes map_row (frames_row ∷ sections_row ∷ []) bytes each.map
    ∙ ap (λ refused. option_or refused (first_fault (sections_row ∷ []) bytes)) fails
