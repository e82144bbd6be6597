-- The parts that are recovered of a damaged input, one by one: pairs, frames, header, header variables and classes.
use Rattle.std.proofs.Common.{◌≡◌, refl, subst, ℕ, ◌+◌, ◌*◌, ◌^◌, ◌<◌, ◌≤◌, List, [], length, Option, Some, None, arith}
use Rattle.std.specs.Prelude.{AllPairs, Ok, if◌then◌else◌}
use Rattle.std.specs.List.{AllByRecursion}
use Rattle.std.specs.Option.{is_none}
use Rattle.std.proofs.lemmas.Option.{same_Some}
use Rattle.dwg_base.specs.Bytes.{AreBytes}
use Rattle.dwg_base.specs.Devices.{MOST_BYTES}
use Rattle.dwg_base.specs.Refusals.{first_fault}
use Rattle.dwg_base.specs.Refusal.{Refusal}
use Rattle.dwg_bits.specs.Bits.{bits}
use Rattle.dwg_bits.proofs.BitLaws.{length_of_bits}
use Rattle.dwg_classes.specs.declared.class.Class.{Class}
use Rattle.dwg_classes.specs.Class.{AreClasses}
use Rattle.dwg_classes.specs.ClassLines.{tried_classes}
use Rattle.dwg_file.specs.ReadAs.{sections_at, whole_locators}
use Rattle.dwg_file.specs.SectionNumbers.{Differ, IsSection}
use Rattle.dwg_file.proofs.SectionNumbers.{taken_bytes, taken_few}
use Rattle.dwg_file.specs.ValidLaws.{WholeSectionsAreRead}
use Rattle.dwg_sections.specs.declared.framed.Framed.TheVariants as framed
use Rattle.dwg_sections.specs.declared.header.FileHeader.{FileHeader}
use Rattle.dwg_sections.specs.FileHeader.{IsFileHeader}
use Rattle.dwg_sections.specs.FramedLines.{BEFORE_CONTENT, content_at, size_at}
use Rattle.dwg_sections.specs.HeaderLaws.{PassingBytesBeginWithHeader}
use Rattle.dwg_objmap.specs.Walking.{SizeIsThere}
use Rattle.dwg_sections.specs.HeaderLines.{HEADER_LINES, header_at, place_of}
use Rattle.dwg_recover.proofs.KeptFrames.{mapped_are_few, mapped_are_kept, with_scanned_are_few, with_scanned_are_kept}
use Rattle.dwg_recover.proofs.KeptObjects.{objects_kept}
use Rattle.dwg_recover.specs.Recovering.{classes_found, code_page_of, drawing_recovered, frames_kept, frames_mapped, lead_of, mark_of, pairs_read, walk_located, walk_of}
use Rattle.dwg_recover.proofs.FoundSections.{classes_cut, found_is_whole}
use Rattle.dwg_recover.specs.Sections.{classes_of, header_of, locators_of, section_found, variables_of}
use Rattle.dwg_recover.proofs.WalkStanding.{pairs_are_few}
use Rattle.dwg_recover.specs.Walks.{pairs_of}
use Rattle.dwg_recover.specs.RecoveredLaws.{FramesAreKept, PairsAreFew, RecoveredPartsAreRead}

-- what a content is cut into is what it is tried to be
abbrev pub ClassesAreRead : Type 0
ClassesAreRead = (place : ℕ) (content : List ℕ) (classes : List Class) → tried_classes place content ≡ Ok classes → AreClasses content classes

-- so they are
pub pairs_read_few : SizeIsThere → PairsAreFew
unfolding pairs_read walk_of
pairs_read_few there bytes = of_place (place_of 2 (locators_of (header_of bytes)))
  where
    of_place : (place : Option ℕ) → length (pairs_of bytes (walk_located bytes place).pages) ≤ length bytes
    of_place None = omega arith
    of_place (Some place) = pairs_are_few there bytes place

-- so they were
pub frames_are_kept : FramesAreKept
unfolding frames_kept frames_mapped
frames_are_kept bytes = with_scanned_are_kept (classes_found bytes) bytes (frames_mapped bytes) (mapped_are_kept bytes (pairs_read bytes))

-- they are no more than twice its bytes
frames_are_few : (bytes : List ℕ) → length (frames_kept bytes) ≤ 2 * length bytes
unfolding frames_kept frames_mapped
frames_are_few bytes = omega (arith, with_scanned_are_few (classes_found bytes) bytes (frames_mapped bytes), mapped_are_few bytes (pairs_read bytes))

-- the header that is found is one
header_fits : PassingBytesBeginWithHeader → (bytes : List ℕ) (header : FileHeader) → AreBytes bytes → header_of bytes ≡ Some header → IsFileHeader header
unfolding header_of
header_fits sound bytes header are is = of_fault (first_fault HEADER_LINES bytes) refl is
  where
    of_fault : (fault : Option Refusal) → first_fault HEADER_LINES bytes ≡ fault → (if is_none fault then Some (header_at bytes) else None) ≡ Some header → IsFileHeader header
    of_fault None none same = subst IsFileHeader (same_Some _ _ same) (sound bytes are none).in_range
    of_fault (Some refusal) none same = absurd cc

-- what the header reports, with its unknown sections that are whole
record IsPrefix (bytes : List ℕ) (header : Option FileHeader) : Type 0 where
  lead : (length (lead_of header) ≡ 7) × AreBytes (lead_of header)
  mark : (length (mark_of header) ≡ 2) × AreBytes (mark_of header)
  code_page : code_page_of header < 2 ^ 16
  few : length (sections_at bytes (whole_locators bytes (locators_of header))) ≤ 3
  others : AllByRecursion (IsSection MOST_BYTES) (sections_at bytes (whole_locators bytes (locators_of header)))
  distinct : AllPairs Differ (sections_at bytes (whole_locators bytes (locators_of header)))

-- no two of no sections
none_differ : AllPairs Differ []
none_differ i j d before within = absurd (omega arith)

-- so it does
prefix_is : PassingBytesBeginWithHeader → WholeSectionsAreRead → (bytes : List ℕ) → AreBytes bytes → length bytes ≤ MOST_BYTES → IsPrefix bytes (header_of bytes)
prefix_is sound whole bytes are few = of_header (header_of bytes) refl
  where
    of_header : (header : Option FileHeader) → header_of bytes ≡ header → IsPrefix bytes header
    of_header None is = record {
      lead = (refl, (omega arith, (omega arith, (omega arith, (omega arith, (omega arith, (omega arith, (omega arith, tt))))))));
      mark = (refl, (omega arith, (omega arith, tt)));
      code_page = omega arith;
      few = omega arith;
      others = tt;
      distinct = none_differ;
    }
    of_header (Some header) is =
        let fits = header_fits sound bytes header are is in
        let sections = whole bytes header are few fits in
        record { lead = fits.lead; mark = fits.mark; code_page = fits.code_page; few = sections.0; others = sections.1; distinct = sections.2 }

-- the header variables are bytes of the input
variables_are : (bytes : List ℕ) (found : Option ℕ) → AreBytes bytes → AreBytes (variables_of bytes found) × (length (variables_of bytes found) ≤ length bytes)
variables_are bytes None are = (tt, omega arith)
variables_are bytes (Some place) are =
    (taken_bytes bytes (place + BEFORE_CONTENT) (size_at bytes place) are, taken_few bytes (place + BEFORE_CONTENT) (size_at bytes place))

-- classes are cut of bytes of the input
record AreCut (bytes : List ℕ) (classes : List Class) : Type 0 where
  content : List ℕ
  cut : AreClasses content classes
  few : length content ≤ length bytes

-- no classes are cut of nothing
none_cut : (bytes : List ℕ) → AreCut bytes []
none_cut bytes = record {
  content = [];
  cut = (bits [], record { prefix = []; spelled = refl; whole = refl; short = omega (arith, length_of_bits []) });
  few = omega arith;
}

-- so are the classes that are found
classes_are : ClassesAreRead → (bytes : List ℕ) → AreCut bytes (classes_found bytes)
unfolding classes_found
classes_are read bytes = of_found (section_found framed.Classes bytes) refl
  where
    of_found : (found : Option ℕ) → section_found framed.Classes bytes ≡ found → AreCut bytes (classes_of bytes found)
    of_found None is = none_cut bytes
    of_found (Some place) is = record {
      content = content_at bytes place;
      cut = read (place + BEFORE_CONTENT) (content_at bytes place) _ (classes_cut bytes place (found_is_whole framed.Classes bytes place is));
      few = taken_few bytes (place + BEFORE_CONTENT) (size_at bytes place);
    }

-- so they are
pub parts_are_read : PassingBytesBeginWithHeader → WholeSectionsAreRead → ClassesAreRead → RecoveredPartsAreRead
unfolding drawing_recovered
parts_are_read sound whole read bytes are few =
    let prefix = prefix_is sound whole bytes are few in
    let variables = variables_are bytes (section_found framed.Variables bytes) are in
    let classes = classes_are read bytes in
    let objects = objects_kept (classes_found bytes) bytes (frames_kept bytes) are few (frames_are_kept bytes) in
    record {
      lead = prefix.lead;
      mark = prefix.mark;
      code_page = prefix.code_page;
      variables = (variables.0, omega (arith, few, variables.1));
      content = classes.content;
      classes = classes.cut;
      content_few = omega (arith, few, classes.few);
      few = prefix.few;
      others = prefix.others;
      distinct = prefix.distinct;
      objects = objects.read;
      count = omega (arith, few, objects.count, frames_are_few bytes);
      ascending = objects.ascending;
    }
