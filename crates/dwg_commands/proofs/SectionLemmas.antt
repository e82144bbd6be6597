-- What `sections` and `classes` answer, said of the header that the input begins with and the classes that it has.
use Rattle.std.proofs.Common.{◌≡◌, refl, sym, ap, ◌∙◌, ℕ, ◌+◌, List, [], ◌∷◌, codes, Option, Some, None, arith}
use Rattle.std.specs.Option.{option_or}
use Rattle.std.specs.Prelude.{Ok, unwrap_or}
use Rattle.std.specs.Result.{result_unwrap_or}
use Rattle.dwg_base.specs.Refusals.{RefusalRow, Tried, fault_of, first_fault}
use Rattle.dwg_base.specs.Refusal.{Refusal}
use Rattle.dwg_classes.specs.Class.{AreClasses}
use Rattle.dwg_classes.specs.ClassLines.{tried_classes}
use Rattle.dwg_classes.specs.declared.class.Class.{Class}
use Rattle.dwg_file.proofs.PassingLines.{both_rows, rows_both, ok_of_fault}
use Rattle.dwg_file.specs.FileLines.{classes_row, classes_section_row, classes_tried, section_place}
use Rattle.dwg_sections.specs.declared.framed.Framed.TheVariants as framed
use Rattle.dwg_sections.specs.declared.header.FileHeader.{FileHeader}
use Rattle.dwg_sections.specs.FileHeader.{BeginsWithHeader}
use Rattle.dwg_sections.specs.FramedLaws.{PassingBytesHaveSection, SectionIsRead}
use Rattle.dwg_sections.specs.FramedLines.{BEFORE_CONTENT, content_at, framed_lines}
use Rattle.dwg_sections.specs.HeaderLaws.{HeaderIsRead, PassingBytesBeginWithHeader, SectionsAreLocated}
use Rattle.dwg_sections.specs.HeaderLines.{HEADER_LINES, header_at, place_of}
use Rattle.dwg_text.specs.Classes.{classes_text}
use Rattle.dwg_text.specs.Sections.{sections_text}
use Rattle.dwg_commands.specs.declared.outcome.Outcome.{Outcome}
use Rattle.dwg_commands.specs.declared.words.Command.{Command}
use Rattle.dwg_commands.specs.declared.words.Command.TheVariants.{Sections, Classes}
use Rattle.dwg_commands.specs.Commands.{READERS, lines_of, row_of}
use Rattle.dwg_commands.specs.Answered.{printed}
use Rattle.dwg_commands.specs.Outcome.{outcome_within}
use Rattle.dwg_commands.specs.OutcomeLaws.{IsInput, HasClasses, RefusesBy, said, SectionsPrintsHeader, NoHeaderIsRefused, ClassesPrintsClasses, NoClassesAreRefused}
use Rattle.dwg_commands.specs.Words.{command_of, reading_of}
use Rattle.dwg_commands.proofs.OutcomeLaws.{of_input, passed, refused}

-- what is known of headers, framed sections and classes
pub record PartLaws : Type 0 where
  pub begins : PassingBytesBeginWithHeader
  pub header : HeaderIsRead
  pub located : SectionsAreLocated
  pub stands : PassingBytesHaveSection
  pub section : SectionIsRead
  pub classes : (place : ℕ) (content : List ℕ) (classes : List Class) → AreClasses content classes → tried_classes place content ≡ Ok classes
  pub cut : (place : ℕ) (content : List ℕ) (classes : List Class) → tried_classes place content ≡ Ok classes → AreClasses content classes

-- each of these words names its command
pub sections_said : (bytes : List ℕ) → IsInput bytes → said (codes "sections") bytes ≡ outcome_within Sections bytes
unfolding command_of reading_of READERS row_of
sections_said bytes input = of_input Sections bytes input refl

pub classes_said : (bytes : List ℕ) → IsInput bytes → said (codes "classes") bytes ≡ outcome_within Classes bytes
unfolding command_of reading_of READERS row_of
classes_said bytes input = of_input Classes bytes input refl

-- where none of a command's lines fails there is something, or else one of them does
refuses : (command : Command) (bytes : List ℕ) (answer : Outcome) → answer ≡ outcome_within command bytes → (first_fault (lines_of command) bytes ≡ None → ⊥) → RefusesBy (lines_of command) bytes answer
refuses command bytes answer is some = of_first (first_fault (lines_of command) bytes) refl
  where
    of_first : (first : Option Refusal) → first_fault (lines_of command) bytes ≡ first → RefusesBy (lines_of command) bytes answer
    of_first (Some refusal) fails = record { refusal = refusal; first = fails; answers = is ∙ refused command bytes refusal fails }
    of_first None holds = absurd (some holds)

-- `sections` prints the header
pub sections_prints_header : PartLaws → SectionsPrintsHeader
unfolding row_of
sections_prints_header laws header bytes input begins =
    let read = laws.header bytes header begins in
    sections_said bytes input ∙ passed Sections bytes read.0 ∙ ap (λ (one : FileHeader). printed (sections_text one)) (sym read.1)

pub no_header_is_refused : PartLaws → NoHeaderIsRefused
unfolding row_of
no_header_is_refused laws bytes input none =
    refuses Sections bytes (said (codes "sections") bytes) (sections_said bytes input) (λ holds. none (header_at bytes) (laws.begins bytes input.are holds))

-- where the section of the classes lies
place_is : (header : FileHeader) (bytes : List ℕ) (place : ℕ) → header ≡ header_at bytes → place_of 1 header.locators ≡ Some place → section_place 1 bytes ≡ place
place_is header bytes place read located =
    ap (λ (one : FileHeader). unwrap_or (place_of 1 one.locators) 0) (sym read) ∙ ap (λ (found : Option ℕ). unwrap_or found 0) located

-- the classes that an input has are those that are tried
classes_are_tried : PartLaws → (classes : List Class) (bytes : List ℕ) → HasClasses bytes classes → classes_tried bytes ≡ Ok classes
unfolding classes_tried
classes_are_tried laws classes bytes has =
    let place : section_place 1 bytes ≡ has.place = place_is has.header bytes has.place (laws.header bytes has.header has.begins).1 has.located in
    let content : has.content ≡ content_at bytes has.place = (laws.section framed.Classes has.place bytes has.content has.stands).1 in
    ap (λ (p : ℕ). tried_classes (p + BEFORE_CONTENT) (content_at bytes p)) place
    ∙ ap (tried_classes (has.place + BEFORE_CONTENT)) (sym content)
    ∙ laws.classes (has.place + BEFORE_CONTENT) has.content classes has.are

-- no line on them fails
section_holds : PartLaws → (classes : List Class) (bytes : List ℕ) → HasClasses bytes classes → classes_section_row bytes ≡ None
unfolding classes_section_row
section_holds laws classes bytes has =
    let place : section_place 1 bytes ≡ has.place = place_is has.header bytes has.place (laws.header bytes has.header has.begins).1 has.located in
    ap (λ (p : ℕ). first_fault (framed_lines framed.Classes p) bytes) place ∙ (laws.section framed.Classes has.place bytes has.content has.stands).0

classes_hold : PartLaws → (classes : List Class) (bytes : List ℕ) → HasClasses bytes classes → classes_row bytes ≡ None
unfolding classes_row
classes_hold laws classes bytes has = ap (λ (tried : Tried (List Class)). fault_of tried) (classes_are_tried laws classes bytes has)

lines_hold : PartLaws → (classes : List Class) (bytes : List ℕ) → HasClasses bytes classes → first_fault (lines_of Classes) bytes ≡ None
unfolding row_of
lines_hold laws classes bytes has =
    both_rows HEADER_LINES (classes_section_row ∷ classes_row ∷ []) bytes (laws.header bytes has.header has.begins).0
    (both_rows (classes_section_row ∷ []) (classes_row ∷ []) bytes (one_holds classes_section_row (section_holds laws classes bytes has)) (one_holds classes_row (classes_hold laws classes bytes has)))
  where
    one_holds : (row : RefusalRow) → row bytes ≡ None → first_fault (row ∷ []) bytes ≡ None
    one_holds row holds = both_rows [] (row ∷ []) bytes refl (rw holds refl)

-- `classes` prints them
pub classes_prints_classes : PartLaws → ClassesPrintsClasses
unfolding row_of
classes_prints_classes laws classes bytes input has =
    classes_said bytes input ∙ passed Classes bytes (lines_hold laws classes bytes has)
    ∙ ap (λ (tried : Tried (List Class)). printed (classes_text (result_unwrap_or tried []))) (classes_are_tried laws classes bytes has)

-- where no line fails an input has classes
pub passing_has_classes : PartLaws → (bytes : List ℕ) → IsInput bytes → first_fault (lines_of Classes) bytes ≡ None → (classes : List Class) × HasClasses bytes classes
unfolding classes_section_row classes_row classes_tried row_of
passing_has_classes laws bytes input holds =
    let parts = rows_both HEADER_LINES (classes_section_row ∷ classes_row ∷ []) bytes holds in
    let rows = rows_both (classes_section_row ∷ []) (classes_row ∷ []) bytes parts.1 in
    let begins : BeginsWithHeader bytes (header_at bytes) = laws.begins bytes input.are parts.0 in
    let found = laws.located (header_at bytes) 1 begins.in_range (omega arith) in
    let place : section_place 1 bytes ≡ found.0.place = place_is (header_at bytes) bytes found.0.place refl found.3 in
    let section : first_fault (framed_lines framed.Classes (section_place 1 bytes)) bytes ≡ None = (rows_one classes_section_row rows.0) in
    let value = ok_of_fault (tried_classes (section_place 1 bytes + BEFORE_CONTENT) (content_at bytes (section_place 1 bytes))) (rows_one classes_row rows.1) in (
      value.0,
      record {
        header = header_at bytes;
        begins = begins;
        place = section_place 1 bytes;
        located = found.3 ∙ ap (λ (p : ℕ). Some p) (sym place);
        content = content_at bytes (section_place 1 bytes);
        stands = laws.stands framed.Classes (section_place 1 bytes) bytes input.are section;
        are = laws.cut (section_place 1 bytes + BEFORE_CONTENT) (content_at bytes (section_place 1 bytes)) value.0 value.1;
      },
    )
  where
    rows_one : (row : RefusalRow) → first_fault (row ∷ []) bytes ≡ None → row bytes ≡ None
    rows_one row none = go (row bytes) refl none
      where
        go : (one : Option Refusal) → row bytes ≡ one → first_fault (row ∷ []) bytes ≡ None → row bytes ≡ None
        go None is holds_all = is
        go (Some refusal) is holds_all = absurd (cc (sym (ap (λ (o : Option Refusal). option_or o None) is) ∙ holds_all))

pub no_classes_are_refused : PartLaws → NoClassesAreRefused
unfolding row_of
no_classes_are_refused laws bytes input none =
    refuses Classes bytes (said (codes "classes") bytes) (classes_said bytes input)
    (λ holds. let has = passing_has_classes laws bytes input holds in none has.0 has.1)
