-- The parts that are read of an input, each in its range, are those of a valid drawing.
use Rattle.std.proofs.Common.{◌≡◌, sym, ◌∙◌, ap, subst, ℕ, ◌+◌, ◌*◌, ◌^◌, ◌<◌, ◌≤◌, List, [], ◌∷◌, length, length-append, arith}
use Rattle.std.specs.Prelude.{map, not, AllPairs}
use Rattle.std.specs.List.{AllByRecursion}
use Rattle.std.proofs.lemmas.List.{length-map}
use Rattle.std.proofs.lemmas.List.Sorted.{length_permutation}
use Rattle.dwg_base.specs.Bytes.{AreBytes}
use Rattle.dwg_base.specs.Devices.{MOST_BYTES}
use Rattle.dwg_base.specs.declared.version.Version.{Version}
use Rattle.dwg_classes.proofs.WrittenClasses.{read_are_values}
use Rattle.dwg_sections.specs.declared.framed.Framed.TheVariants.{Variables, Classes}
use Rattle.dwg_sections.specs.declared.header.Locator.{Locator}
use Rattle.dwg_sections.specs.declared.header.FileHeader.{FileHeader}
use Rattle.dwg_sections.specs.FramedLines.{size_at}
use Rattle.dwg_sections.proofs.HeaderComplete.{header_gives_version}
use Rattle.dwg_file.specs.Canonical.{class_content, frames_bytes, others_bytes, map_of, objects_place, placed}
use Rattle.dwg_file.specs.Contents.{OtherValue, Contents}
use Rattle.dwg_file.specs.FileLines.{is_cut}
use Rattle.dwg_file.specs.ReadAs.{sections_at, whole_locators}
use Rattle.dwg_file.specs.Spelled.{PairFrame, Spelled}
use Rattle.dwg_file.specs.Valid.{IsOther, IsValid}
use Rattle.dwg_file.proofs.MapSize.{map_short, map_few}
use Rattle.dwg_file.proofs.ObjectSize.{ordered_are_read, read_small, small_valid, frames_short, length_of_placed, classes_short}
use Rattle.dwg_file.proofs.ReadingLemmas.{SectionLaws, spelled_reads}
use Rattle.dwg_file.specs.ObjectSize.{IsReadOf}
use Rattle.dwg_file.specs.SectionNumbers.{IsSection, Differ}
use Rattle.dwg_file.proofs.SectionNumbers.{taken_bytes, taken_few, sections_are_sections, sections_few, sections_distinct, sections_filtered, sections_filtered_few, sections_filtered_differ}
use Rattle.dwg_file.specs.ValidLaws.{ReadPartsAreValid, WholeSectionsAreRead}

-- unknown sections of an input are unknown sections
sections_valid : (most : ℕ) (others : List OtherValue) → AllByRecursion (IsSection most) others → AllByRecursion IsOther others
sections_valid most [] are = tt
sections_valid most (other ∷ others) are = (are.0.is, sections_valid most others are.1)

-- and have no more bytes than so many each
sections_short : (others : List OtherValue) → AllByRecursion (IsSection MOST_BYTES) others → length (others_bytes others) ≤ 33554432 * length others
sections_short [] are = omega arith
sections_short (other ∷ others) are = omega (arith, are.0.few, length-append other.bytes (others_bytes others), sections_short others are.1)

-- sections of an input are of one that may be longer
sections_longer : (most more : ℕ) (others : List OtherValue) → most ≤ more → AllByRecursion (IsSection most) others → AllByRecursion (IsSection more) others
sections_longer most more [] least are = tt
sections_longer most more (other ∷ others) least are = (record { is = are.0.is; few = omega (arith, are.0.few) }, sections_longer most more others least are.1)

-- the sum of the parts of a canonical file is small
parts_small : (others variables classes objects frames map sections : ℕ) → others ≤ 3 → variables ≤ 33554432 → classes ≤ 33554432 → objects ≤ 67108864
    → frames ≤ 33554438 * objects → map ≤ 8 + 24 * objects → sections ≤ 33554432 * others
    → 43 + 9 * (3 + others) + 38 + variables + 38 + classes + 37 + frames + map + sections < 2 ^ 58
parts_small others variables classes objects frames map sections a b c d e f g = omega arith

-- so they do
pub parts_are_valid : ReadPartsAreValid
parts_are_valid drawing parts =
    let small = read_small drawing.version drawing.classes drawing.objects parts.objects in
    record {
      lead = parts.lead;
      mark = parts.mark;
      code_page = parts.code_page;
      variables = parts.variables.0;
      classes = (read_are_values parts.content drawing.classes parts.classes).0;
      few = parts.few;
      others = sections_valid MOST_BYTES drawing.others parts.others;
      distinct = parts.distinct;
      objects = small_valid drawing.version drawing.classes MOST_BYTES drawing.objects small;
      ascending = parts.ascending;
      size = parts_small (length drawing.others) (length drawing.variables) (length (class_content drawing.classes)) (length drawing.objects) (length (frames_bytes drawing.version drawing.objects))
          (length (map_of drawing)) (length (others_bytes drawing.others)) parts.few
          (omega (arith, parts.variables.1))
          (omega (arith, classes_short parts.content drawing.classes parts.classes, parts.content_few))
          (omega (arith, parts.count)) (frames_short drawing.version drawing.classes drawing.objects small)
          (subst (λ n. length (map_of drawing) ≤ 8 + 24 * n) (length_of_placed drawing.version (objects_place drawing) drawing.objects) (map_short (placed drawing.version (objects_place drawing) drawing.objects)))
          (sections_short drawing.others parts.others);
    }

-- so they are
pub whole_sections_are_read : WholeSectionsAreRead
whole_sections_are_read bytes header are few is =
    let locators : List Locator = header.locators in
    let whole : List Locator = whole_locators bytes locators in
    let stay = λ (locator : Locator). not (is_cut bytes locator) in (
      omega (arith, sections_few bytes locators is.sections, sections_filtered_few bytes stay locators),
      sections_longer (length bytes) MOST_BYTES (sections_at bytes whole) few
          (sections_filtered bytes stay (IsSection (length bytes)) locators (sections_are_sections bytes locators are is.locators)),
      sections_filtered_differ bytes stay locators (sections_distinct bytes locators is.sections),
    )

-- what an input spells is valid
pub spelled_is_valid : SectionLaws → (drawing : Contents) (bytes : List ℕ) → AreBytes bytes → length bytes ≤ MOST_BYTES → Spelled drawing bytes → IsValid drawing
spelled_is_valid laws drawing bytes are few spelled =
    let header = spelled.begins.in_range in
    let reads = spelled_reads laws drawing bytes are spelled in
    let same = (laws.header_complete bytes spelled.header spelled.begins).1 in
    let locators : List Locator = spelled.header.locators in
    let others : drawing.others ≡ sections_at bytes locators = reads.others ∙ ap (λ (l : List Locator). sections_at bytes l) (sym (ap (λ (h : FileHeader). h.locators) same)) in
    let variables = (laws.section_complete Variables spelled.variables_place bytes drawing.variables spelled.variables).1 in
    let content = (laws.section_complete Classes spelled.classes_place bytes spelled.class_content spelled.classes_framed).1 in
    parts_are_valid drawing (record {
      lead = subst (λ (p : List ℕ). (length p ≡ 7) × AreBytes p) (sym spelled.lead) header.lead;
      mark = subst (λ (p : List ℕ). (length p ≡ 2) × AreBytes p) (sym spelled.mark) header.mark;
      code_page = subst (λ n. n < 2 ^ 16) (sym spelled.code_page) header.code_page;
      variables = (
        subst AreBytes (sym variables) (taken_bytes bytes (spelled.variables_place + 20) (size_at bytes spelled.variables_place) are),
        omega (arith, few, ap length variables, taken_few bytes (spelled.variables_place + 20) (size_at bytes spelled.variables_place)),
      );
      content = spelled.class_content;
      classes = spelled.classes;
      content_few = omega (arith, few, ap length content, taken_few bytes (spelled.classes_place + 20) (size_at bytes spelled.classes_place));
      few = subst (λ (o : List OtherValue). length o ≤ 3) (sym others) (sections_few bytes locators header.sections);
      others = sections_longer (length bytes) MOST_BYTES drawing.others few
          (subst (AllByRecursion (IsSection (length bytes))) (sym others) (sections_are_sections bytes locators are header.locators));
      distinct = subst (AllPairs Differ) (sym others) (sections_distinct bytes locators header.sections);
      objects =
          subst (λ (v : Version). AllByRecursion (IsReadOf v drawing.classes) drawing.objects) (sym (spelled.version ∙ header_gives_version bytes spelled.header spelled.begins))
          (ordered_are_read drawing.classes bytes spelled.frames drawing.objects are few spelled.stand spelled.objects);
      count = omega (
        arith,
        few,
        length_permutation (map (λ (frame : PairFrame). frame.object) spelled.frames) drawing.objects spelled.objects,
        length-map spelled.frames (λ (frame : PairFrame). frame.object),
        length-map spelled.frames (λ (frame : PairFrame). frame.pair),
        ap length spelled.framed,
        map_few bytes spelled.map_place spelled.pairs spelled.mapped,
      );
      ascending = spelled.ascending;
    })
