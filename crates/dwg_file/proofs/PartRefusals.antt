-- The lines on the header variables, the classes and the map refuse an input as the first thing in them that fails is refused.
use Rattle.std.proofs.Common.{◌≡◌, sym, ◌∙◌, ap, subst, ◌+◌}
use Rattle.std.specs.Prelude.{◌↔◌, Some, Err}
use Rattle.dwg_base.specs.Refusals.{Tried, fault_of}
use Rattle.dwg_base.specs.Refusal.{Refusal}
use Rattle.dwg_classes.specs.ClassLines.{RefusesClass, tried_classes}
use Rattle.dwg_classes.proofs.ClassLineLemmas.{tried_err}
use Rattle.dwg_objmap.specs.MapLines.{RefusesMap, tried_map}
use Rattle.dwg_objmap.proofs.MapLemmas.{map_is_refused}
use Rattle.dwg_sections.specs.declared.framed.Framed.TheVariants.{Variables, Classes}
use Rattle.dwg_sections.specs.FramedLaws.{SectionIsRead}
use Rattle.dwg_sections.specs.FramedLines.{BEFORE_CONTENT, content_at}
use Rattle.dwg_sections.specs.FramedRefusals.{RefusesFramed, SectionIsRefused}
use Rattle.dwg_sections.specs.HeaderLaws.{HeaderIsRead}
use Rattle.dwg_file.specs.FileLines.{section_place, variables_row, classes_section_row, classes_tried, classes_row, map_tried, map_row}
use Rattle.dwg_file.specs.PartRefusals.{VariablesAreRefused, ClassSectionIsRefused, ClassesAreRefused, MapIsRefused}
use Rattle.dwg_file.proofs.FrameRefusalLemmas.{err_of_fault}
use Rattle.dwg_file.proofs.ReadingLemmas.{located_same}

-- what was tried reports a refusal exactly where it is that
fault_is_err : {V : Type 0} (tried : Tried V) (refusal : Refusal) → (fault_of tried ≡ Some refusal) ↔ (tried ≡ Err refusal)
fault_is_err {V} tried refusal = (err_of_fault tried refusal, λ same. ap fault_of same)

-- one thing exactly where another, and that exactly where a third
both_ways : {A B C : Type 0} → A ↔ B → B ↔ C → A ↔ C
both_ways {A} {B} {C} first second = (λ a. second.0 (first.0 a), λ c. first.1 (second.1 c))

-- the lines on the header variables
pub variables_are_refused : HeaderIsRead → SectionIsRefused → VariablesAreRefused
unfolding variables_row
variables_are_refused read refused bytes header place refusal begins located =
    let here : place ≡ section_place 0 bytes = located_same bytes header 0 place (read bytes header begins).1 located in
    subst (λ n. (variables_row bytes ≡ Some refusal) ↔ RefusesFramed Variables n bytes refusal) (sym here) (refused Variables (section_place 0 bytes) bytes refusal)

-- those on the section of the classes
pub class_section_is_refused : HeaderIsRead → SectionIsRefused → ClassSectionIsRefused
unfolding classes_section_row
class_section_is_refused read refused bytes header place refusal begins located =
    let here : place ≡ section_place 1 bytes = located_same bytes header 1 place (read bytes header begins).1 located in
    subst (λ n. (classes_section_row bytes ≡ Some refusal) ↔ RefusesFramed Classes n bytes refusal) (sym here) (refused Classes (section_place 1 bytes) bytes refusal)

-- those on the classes
pub classes_are_refused : HeaderIsRead → SectionIsRead → ClassesAreRefused
unfolding classes_tried classes_row
classes_are_refused read section bytes content header place refusal begins located framed =
    let here : place ≡ section_place 1 bytes = located_same bytes header 1 place (read bytes header begins).1 located in
    let reported : content ≡ content_at bytes place = (section Classes place bytes content framed).1 in
    let same : classes_tried bytes ≡ tried_classes (place + BEFORE_CONTENT) content =
    ap (λ n. tried_classes (n + BEFORE_CONTENT) (content_at bytes n)) (sym here) ∙ ap (tried_classes (place + BEFORE_CONTENT)) (sym reported) in
    subst (λ tried. (fault_of tried ≡ Some refusal) ↔ RefusesClass (place + BEFORE_CONTENT) content refusal) (sym same)
    (both_ways (fault_is_err (tried_classes (place + BEFORE_CONTENT) content) refusal) (tried_err (place + BEFORE_CONTENT) content refusal))

-- those on the map
pub map_lines_are_refused : HeaderIsRead → MapIsRefused
unfolding map_tried map_row
map_lines_are_refused read bytes header place refusal are begins located =
    let here : place ≡ section_place 2 bytes = located_same bytes header 2 place (read bytes header begins).1 located in
    subst (λ n. (map_row bytes ≡ Some refusal) ↔ RefusesMap n bytes refusal) (sym here)
    (both_ways (fault_is_err (tried_map (section_place 2 bytes) bytes) refusal) (map_is_refused (section_place 2 bytes) bytes refusal are))
