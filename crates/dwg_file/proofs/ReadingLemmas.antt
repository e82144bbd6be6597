-- What is read of an input in which no line fails is what it spells, and an input spells one drawing at the most.
use Rattle.std.proofs.Common.{◌≡◌, sym, ◌∙◌, ap, subst, ℕ, ◌+◌, List, [], Some, None, arith}
use Rattle.std.specs.Prelude.{map, unwrap_or, Ok}
use Rattle.std.specs.List.Sorted.{IsPermutation}
use Rattle.std.specs.Result.{result_unwrap_or}
use Rattle.dwg_base.specs.Bytes.{AreBytes}
use Rattle.dwg_base.specs.Refusals.{Tried, first_fault, fault_of}
use Rattle.dwg_base.specs.declared.version.Version.{Version}
use Rattle.dwg_classes.specs.declared.class.Class.{Class}
use Rattle.dwg_classes.specs.Class.{AreClasses}
use Rattle.dwg_classes.proofs.ClassLineLemmas.{tried_ok}
use Rattle.dwg_object.specs.Objects.{ObjectValue}
use Rattle.dwg_objmap.specs.declared.pair.Pair.{Pair}
use Rattle.dwg_objmap.specs.Pages.{MapOf}
use Rattle.dwg_objmap.proofs.MapLemmas.{map_is_tried}
use Rattle.dwg_sections.specs.declared.framed.Framed.TheVariants.{Variables, Classes}
use Rattle.dwg_sections.specs.declared.header.Locator.{Locator}
use Rattle.dwg_sections.specs.declared.header.FileHeader.{FileHeader}
use Rattle.dwg_sections.specs.HeaderLaws.{PassingBytesBeginWithHeader, HeaderIsRead}
use Rattle.dwg_sections.specs.HeaderLines.{header_at, place_of}
use Rattle.dwg_sections.specs.Framed.{FramedAt}
use Rattle.dwg_sections.specs.FramedLaws.{PassingBytesHaveSection, SectionIsRead}
use Rattle.dwg_sections.specs.FramedLines.{content_at}
use Rattle.dwg_file.specs.Contents.{OtherValue, Contents}
use Rattle.dwg_file.specs.FileLines.{ALL_LINES, FoundFrame, section_place, classes_tried, map_tried, frames_after, frames_tried}
use Rattle.dwg_file.specs.ReadAs.{AreFormsOf, ReadsAs}
use Rattle.dwg_file.specs.Spelled.{PairFrame, AreSectionsOf, Spelled}
use Rattle.dwg_file.proofs.PassingLines.{each_holds, all_hold, ok_of_fault}
use Rattle.dwg_file.proofs.SectionPlaces.{is_located, sections_stand, sections_are}
use Rattle.dwg_file.proofs.FramesFound.{frames_found, found_frames}
use Rattle.dwg_file.proofs.FramesSpelled.{FramesOf, frames_of, found_of, free_of_none, forms_once}
use Rattle.dwg_file.proofs.ObjectOrder.{order_once}

-- the laws of the file header and of framed sections
pub record SectionLaws : Type 0 where
  pub header_sound : PassingBytesBeginWithHeader
  pub header_complete : HeaderIsRead
  pub section_sound : PassingBytesHaveSection
  pub section_complete : SectionIsRead

-- what is read is spelled
pub reads_spelled : SectionLaws → (drawing : Contents) (bytes : List ℕ) → AreBytes bytes → ReadsAs drawing bytes → Spelled drawing bytes
unfolding classes_tried map_tried frames_tried
reads_spelled laws drawing bytes are reads =
    let each = each_holds bytes reads.holds in
    let begins = laws.header_sound bytes are each.header in
    let locators : List Locator = (header_at bytes).locators in
    let sections = begins.in_range.sections in
    let mapped = ok_of_fault (map_tried bytes) each.map in
    let found = frames_found bytes 0 [] mapped.0 reads.found are (ap (λ (tried : Tried (List Pair)). frames_after bytes 0 [] (result_unwrap_or tried [])) (sym mapped.1) ∙ reads.frames) in
    let frames : FramesOf drawing.classes bytes [] mapped.0 reads.values =
    frames_of drawing.classes bytes [] mapped.0 found.0 reads.values found.2 (subst (λ (f : List FoundFrame). AreFormsOf drawing.classes bytes f reads.values) found.1 reads.forms) in
    record {
      header = header_at bytes;
      begins = begins;
      version = reads.version;
      lead = reads.lead;
      mark = reads.mark;
      code_page = reads.code_page;
      variables_place = section_place 0 bytes;
      variables_located = is_located 0 locators (sections.located 0 (omega arith));
      classes_place = section_place 1 bytes;
      classes_located = is_located 1 locators (sections.located 1 (omega arith));
      map_place = section_place 2 bytes;
      map_located = is_located 2 locators (sections.located 2 (omega arith));
      variables = subst (FramedAt bytes (section_place 0 bytes) Variables) (sym reads.variables) (laws.section_sound Variables (section_place 0 bytes) bytes are each.variables);
      class_content = content_at bytes (section_place 1 bytes);
      classes_framed = laws.section_sound Classes (section_place 1 bytes) bytes are each.class_section;
      classes = (tried_ok (section_place 1 bytes + 20) (content_at bytes (section_place 1 bytes)) drawing.classes).0 reads.classes;
      pairs = mapped.0;
      mapped = (map_is_tried (section_place 2 bytes) bytes mapped.0 are).0 mapped.1;
      frames = frames.frames;
      framed = frames.framed;
      stand = frames.stand;
      apart = frames.apart;
      objects = subst (λ (values : List ObjectValue). IsPermutation values drawing.objects) frames.objects reads.objects;
      ascending = reads.ascending;
      others = subst (AreSectionsOf bytes locators) (sym reads.others) (sections_stand bytes 0 locators each.sections);
    }

-- the place of a section of the header that an input begins with
pub located_same : (bytes : List ℕ) (header : FileHeader) (number place : ℕ) → header ≡ header_at bytes → place_of number header.locators ≡ Some place → place ≡ section_place number bytes
located_same bytes header number place same located =
    sym (ap (λ found. unwrap_or found 0) located) ∙ ap (λ (h : FileHeader). unwrap_or (place_of number h.locators) 0) same

-- and what is spelled is read
pub spelled_reads : SectionLaws → (drawing : Contents) (bytes : List ℕ) → AreBytes bytes → Spelled drawing bytes → ReadsAs drawing bytes
unfolding classes_tried map_tried frames_tried
spelled_reads laws drawing bytes are spelled =
    let header = laws.header_complete bytes spelled.header spelled.begins in
    let same = header.1 in
    let variables_place = located_same bytes spelled.header 0 spelled.variables_place same spelled.variables_located in
    let classes_place = located_same bytes spelled.header 1 spelled.classes_place same spelled.classes_located in
    let map_place = located_same bytes spelled.header 2 spelled.map_place same spelled.map_located in
    let variables = laws.section_complete Variables (section_place 0 bytes) bytes drawing.variables (subst (λ n. FramedAt bytes n Variables drawing.variables) variables_place spelled.variables) in
    let class_section = laws.section_complete Classes (section_place 1 bytes) bytes spelled.class_content (subst (λ n. FramedAt bytes n Classes spelled.class_content) classes_place spelled.classes_framed) in
    let classes : classes_tried bytes ≡ Ok drawing.classes =
    (tried_ok (section_place 1 bytes + 20) (content_at bytes (section_place 1 bytes)) drawing.classes).1
    (subst (λ (content : List ℕ). AreClasses content drawing.classes) class_section.1 spelled.classes) in
    let pairs : List Pair = map (λ (frame : PairFrame). frame.pair) spelled.frames in
    let mapped : map_tried bytes ≡ Ok pairs =
    (map_is_tried (section_place 2 bytes) bytes pairs are).1 (subst (λ n. MapOf bytes n pairs) map_place (subst (MapOf bytes spelled.map_place) spelled.framed spelled.mapped)) in
    let found = found_of drawing.classes bytes [] spelled.frames spelled.stand spelled.apart (free_of_none spelled.frames) in
    let frames : frames_tried bytes ≡ Ok found.founds =
    ap (λ (tried : Tried (List Pair)). frames_after bytes 0 [] (result_unwrap_or tried [])) mapped ∙ found_frames bytes 0 [] pairs found.founds are found.found in
    let sections = sections_are bytes 0 (header_at bytes).locators drawing.others (subst (λ (h : FileHeader). AreSectionsOf bytes h.locators drawing.others) same spelled.others) in
    record {
      holds = all_hold bytes (record {
        header = header.0;
        variables = variables.0;
        class_section = class_section.0;
        classes = ap fault_of classes;
        map = ap fault_of mapped;
        frames = ap fault_of frames;
        sections = sections.0;
      });
      version = spelled.version ∙ ap (λ (h : FileHeader). h.version) same;
      lead = spelled.lead ∙ ap (λ (h : FileHeader). h.lead) same;
      mark = spelled.mark ∙ ap (λ (h : FileHeader). h.mark) same;
      code_page = spelled.code_page ∙ ap (λ (h : FileHeader). h.code_page) same;
      variables = variables.1;
      classes = classes;
      found = found.founds;
      frames = frames;
      values = map (λ (frame : PairFrame). frame.object) spelled.frames;
      forms = found.forms;
      objects = spelled.objects;
      ascending = spelled.ascending;
      others = sections.1;
    }

-- where a drawing is spelled no line fails
pub spelled_passes : SectionLaws → (drawing : Contents) (bytes : List ℕ) → AreBytes bytes → Spelled drawing bytes → first_fault ALL_LINES bytes ≡ None
spelled_passes laws drawing bytes are spelled = (spelled_reads laws drawing bytes are spelled).holds

-- what was tried has one value
ok_same : {V : Type 0} (tried : Tried V) (value other : V) → tried ≡ Ok value → tried ≡ Ok other → value ≡ other
ok_same {V} tried value other is also = let both : ◌≡◌ {A = Tried V} (Ok value) (Ok other) = sym is ∙ also in cc

-- drawings of the same parts are one
contents_same : (one other : Contents) → one.version ≡ other.version → one.lead ≡ other.lead → one.mark ≡ other.mark → one.code_page ≡ other.code_page
    → one.variables ≡ other.variables → one.classes ≡ other.classes → one.others ≡ other.others → one.objects ≡ other.objects → one ≡ other
contents_same one other version lead mark code_page variables classes others objects =
    ap (λ (p : Version). record { version = p; lead = one.lead; mark = one.mark; code_page = one.code_page; variables = one.variables; classes = one.classes; others = one.others; objects = one.objects }) version
    ∙ ap (λ (p : List ℕ). record { version = other.version; lead = p; mark = one.mark; code_page = one.code_page; variables = one.variables; classes = one.classes; others = one.others; objects = one.objects }) lead
    ∙ ap (λ (p : List ℕ). record { version = other.version; lead = other.lead; mark = p; code_page = one.code_page; variables = one.variables; classes = one.classes; others = one.others; objects = one.objects }) mark
    ∙ ap (λ (p : ℕ). record { version = other.version; lead = other.lead; mark = other.mark; code_page = p; variables = one.variables; classes = one.classes; others = one.others; objects = one.objects }) code_page
    ∙ ap (λ (p : List ℕ). record { version = other.version; lead = other.lead; mark = other.mark; code_page = other.code_page; variables = p; classes = one.classes; others = one.others; objects = one.objects }) variables
    ∙ ap (λ (p : List Class). record { version = other.version; lead = other.lead; mark = other.mark; code_page = other.code_page; variables = other.variables; classes = p; others = one.others; objects = one.objects }) classes
    ∙ ap (λ (p : List OtherValue). record { version = other.version; lead = other.lead; mark = other.mark; code_page = other.code_page; variables = other.variables; classes = other.classes; others = p; objects = one.objects }) others
    ∙ ap (λ (p : List ObjectValue). record { version = other.version; lead = other.lead; mark = other.mark; code_page = other.code_page; variables = other.variables; classes = other.classes; others = other.others; objects = p }) objects

-- an input is read as one drawing
pub reads_once : (bytes : List ℕ) (drawing other : Contents) → ReadsAs drawing bytes → ReadsAs other bytes → drawing ≡ other
reads_once bytes drawing other reads also =
    let classes = ok_same (classes_tried bytes) drawing.classes other.classes reads.classes also.classes in
    let founds = ok_same (frames_tried bytes) reads.found also.found reads.frames also.frames in
    let forms = subst (λ (f : List FoundFrame). AreFormsOf other.classes bytes f reads.values) founds (subst (λ (c : List Class). AreFormsOf c bytes reads.found reads.values) classes reads.forms) in
    let values = forms_once other.classes bytes also.found reads.values also.values forms also.forms in
    contents_same drawing other (reads.version ∙ sym also.version) (reads.lead ∙ sym also.lead) (reads.mark ∙ sym also.mark) (reads.code_page ∙ sym also.code_page) (reads.variables ∙ sym also.variables) classes (reads.others ∙ sym also.others)
    (order_once also.values drawing.objects other.objects (subst (λ (v : List ObjectValue). IsPermutation v drawing.objects) values reads.objects) also.objects reads.ascending also.ascending)

-- an input spells one drawing at the most
pub spelled_once : SectionLaws → (bytes : List ℕ) (drawing other : Contents) → AreBytes bytes → Spelled drawing bytes → Spelled other bytes → drawing ≡ other
spelled_once laws bytes drawing other are spelled also = reads_once bytes drawing other (spelled_reads laws drawing bytes are spelled) (spelled_reads laws other bytes are also)
