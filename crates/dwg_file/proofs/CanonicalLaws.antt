-- Each part of the canonical file stands at its place, so it spells its drawing, and rewriting twice is rewriting once.
use Rattle.std.proofs.Common.{◌≡◌, refl, ap, ap₂, subst, ◌∷◌, ◌^◌, ◌<◌, inl, ℕ, ◌+◌, ◌≤◌, List, ◌++◌, length, None, arith}
use Rattle.std.specs.Prelude.{map}
use Rattle.std.specs.List.Sorted.{IsPermutation}
use Rattle.std.proofs.lemmas.List.Sorted.{IsPermutation-refl}
use Rattle.dwg_base.specs.Bytes.{AreBytes, StandsAt}
use Rattle.dwg_base.specs.Devices.{MOST_BYTES}
use Rattle.dwg_base.specs.Refusals.{first_fault}
use Rattle.dwg_base.specs.Versions.{version_at}
use Rattle.dwg_object.specs.Objects.{ObjectValue}
use Rattle.dwg_objmap.proofs.FillingLemmas.{map_is_written}
use Rattle.dwg_objmap.specs.Writing.{Ascend, map_bytes}
use Rattle.dwg_sections.specs.declared.framed.Framed.TheVariants.{Variables, Classes}
use Rattle.dwg_sections.specs.declared.header.FileHeader.{FileHeader}
use Rattle.dwg_sections.specs.FileHeader.{BeginsWithHeader, header_bytes, IsFileHeader}
use Rattle.dwg_sections.proofs.HeaderComplete.{header_gives_version}
use Rattle.dwg_sections.specs.Framed.{framed_bytes}
use Rattle.dwg_file.specs.Contents.{Contents}
use Rattle.dwg_file.specs.Canonical.{Carried, IsCarried, NO_PICTURE, canonical, canonical_with, class_content, classes_place, frames_bytes, header_with, map_place_with, map_with, objects_place_with, others_bytes, others_located, others_place_with, placed, preview_at, preview_place, preview_size, size_with, variables_place}
use Rattle.dwg_preview.specs.Previews.{preview_bytes}
use Rattle.dwg_preview.proofs.Moving.{moved_is_content, moved_stays}
use Rattle.dwg_file.specs.CanonicalFrames.{canonical_frames_with}
use Rattle.dwg_file.proofs.CanonicalFrames.{pairs_of_frames, objects_of_frames, frames_stand, frames_apart, pairs_ascend, frames_are_bytes, others_are_bytes, others_stand}
use Rattle.dwg_file.proofs.CanonicalHeader.{header_fits, length_of_located}
use Rattle.dwg_file.proofs.CanonicalParts.{length_of_header, header_is_bytes, length_of_framed, framed_is_bytes, length_of_preview, no_picture, preview_is_bytes, content_is_bytes, content_is_classes}
use Rattle.dwg_file.specs.DrawingAt.{drawing_at}
use Rattle.dwg_file.specs.FileLines.{ALL_LINES}
use Rattle.dwg_file.proofs.MapBytes.{map_is_bytes}
use Rattle.dwg_file.proofs.SevenPieces.{length_of_seven, seven_are_bytes, seven_stand}
use Rattle.dwg_file.specs.Spelled.{PairFrame, AreSectionsOf, Spelled}
use Rattle.dwg_file.specs.Valid.{IsValid}
use Rattle.dwg_file.specs.CanonicalLaws.{CarryingIsCounted, CarryingIsDoneOnce, CarryingSpells, CarryingSpellsNoOther, PreviewIsCarried, CanonicalIsCounted, CanonicalIsRead, CanonicalSpells, CanonicalSpellsNoOther, CanonicalGivesDrawing, RewritingIsDoneOnce}

-- the header reaches to the first section
pub header_reaches : (carried : Carried) (drawing : Contents) → IsFileHeader (header_with carried drawing) → length (header_bytes (header_with carried drawing)) ≡ variables_place drawing
header_reaches carried drawing is = omega (arith, length_of_header (header_with carried drawing) is, length_of_located drawing.others (others_place_with carried drawing))

-- the canonical file has the size that is counted
pub length_of_canonical : (carried : Carried) (drawing : Contents) → IsCarried carried → size_with carried drawing ≤ MOST_BYTES → IsFileHeader (header_with carried drawing)
    → length (canonical_with carried drawing) ≡ size_with carried drawing
unfolding canonical_with
length_of_canonical carried drawing one small is =
    omega (
      arith,
      length_of_seven (header_bytes (header_with carried drawing)) (framed_bytes Variables drawing.variables) (framed_bytes Classes (class_content drawing.classes))
          (preview_at carried (preview_place drawing)) (frames_bytes drawing.version drawing.objects) (map_with carried drawing) (others_bytes drawing.others),
      header_reaches carried drawing is,
      length_of_framed Variables drawing.variables,
      length_of_framed Classes (class_content drawing.classes),
      length_of_preview carried (preview_place drawing) one (omega (arith, small)),
    )

-- the pairs of its map ascend
pub canonical_ascends : (carried : Carried) (drawing : Contents) → IsCarried carried → IsValid drawing → Ascend 0 (placed drawing.version (objects_place_with carried drawing) drawing.objects)
canonical_ascends carried drawing one is =
    pairs_ascend drawing.version drawing.classes drawing.objects (objects_place_with carried drawing) is.objects is.ascending (omega (arith, is.size, one.is.size))

-- it is bytes
pub canonical_is_bytes : (carried : Carried) (drawing : Contents) → IsCarried carried → IsValid drawing → IsFileHeader (header_with carried drawing) → AreBytes (canonical_with carried drawing)
unfolding canonical_with
canonical_is_bytes carried drawing one is fits =
    seven_are_bytes (header_bytes (header_with carried drawing)) (framed_bytes Variables drawing.variables) (framed_bytes Classes (class_content drawing.classes))
    (preview_at carried (preview_place drawing)) (frames_bytes drawing.version drawing.objects) (map_with carried drawing) (others_bytes drawing.others)
    (header_is_bytes (header_with carried drawing) fits)
    (framed_is_bytes Variables drawing.variables is.variables)
    (framed_is_bytes Classes (class_content drawing.classes) (content_is_bytes drawing.classes))
    (preview_is_bytes carried (preview_place drawing) one)
    (frames_are_bytes drawing.version drawing.classes drawing.objects is.objects)
    (map_is_bytes (placed drawing.version (objects_place_with carried drawing) drawing.objects) (canonical_ascends carried drawing one is))
    (others_are_bytes drawing.others is.others)

-- each part of the canonical file stands at its place
pub record PartsStand (carried : Carried) (drawing : Contents) : Type 0 where
  pub begins : (rest : List ℕ) × (canonical_with carried drawing ≡ header_bytes (header_with carried drawing) ++ rest)
  pub variables : StandsAt (canonical_with carried drawing) (variables_place drawing) (framed_bytes Variables drawing.variables)
  pub classes : StandsAt (canonical_with carried drawing) (classes_place drawing) (framed_bytes Classes (class_content drawing.classes))
  pub preview : StandsAt (canonical_with carried drawing) (preview_place drawing) (preview_at carried (preview_place drawing))
  pub frames : StandsAt (canonical_with carried drawing) (objects_place_with carried drawing) (frames_bytes drawing.version drawing.objects)
  pub mapped : StandsAt (canonical_with carried drawing) (map_place_with carried drawing) (map_with carried drawing)
  pub others : StandsAt (canonical_with carried drawing) (others_place_with carried drawing) (others_bytes drawing.others)

-- what stands at a place stands at the same number
stands_there : (bytes piece : List ℕ) (from to : ℕ) → from ≡ to → StandsAt bytes from piece → StandsAt bytes to piece
stands_there bytes piece from to same stands = subst (λ at. StandsAt bytes at piece) same stands

-- so they do
pub parts_stand : (carried : Carried) (drawing : Contents) → IsCarried carried → size_with carried drawing ≤ MOST_BYTES → IsFileHeader (header_with carried drawing) → PartsStand carried drawing
unfolding canonical_with
parts_stand carried drawing is small fits =
    let whole : List ℕ = canonical_with carried drawing in
    let header : List ℕ = header_bytes (header_with carried drawing) in
    let preview : List ℕ = preview_at carried (preview_place drawing) in
    let map : List ℕ = map_with carried drawing in
    let variables : List ℕ = framed_bytes Variables drawing.variables in
    let classes : List ℕ = framed_bytes Classes (class_content drawing.classes) in
    let frames : List ℕ = frames_bytes drawing.version drawing.objects in
    let long : length preview ≡ preview_size carried = length_of_preview carried (preview_place drawing) is (omega (arith, small)) in
    let stand = seven_stand whole header variables classes preview frames map (others_bytes drawing.others) refl in
    let one : length header ≡ variables_place drawing = header_reaches carried drawing fits in
    let two : length header + length variables ≡ classes_place drawing = omega (arith, one, length_of_framed Variables drawing.variables) in
    let half : length header + length variables + length classes ≡ preview_place drawing = omega (arith, two, length_of_framed Classes (class_content drawing.classes)) in
    let three : length header + length variables + length classes + length preview ≡ objects_place_with carried drawing = omega (arith, half, long) in
    let four : length header + length variables + length classes + length preview + length frames ≡ map_place_with carried drawing = omega (arith, three) in
    let five : length header + length variables + length classes + length preview + length frames + length map ≡ others_place_with carried drawing = omega (arith, four) in
    record {
      begins = stand.begins;
      variables = stands_there whole variables (length header) (variables_place drawing) one stand.second;
      classes = stands_there whole classes (length header + length variables) (classes_place drawing) two stand.third;
      preview = stands_there whole preview (length header + length variables + length classes) (preview_place drawing) half stand.fourth;
      frames = stands_there whole frames (length header + length variables + length classes + length preview) (objects_place_with carried drawing) three stand.fifth;
      mapped =
          stands_there whole map (length header + length variables + length classes + length preview + length frames) (map_place_with carried drawing) four
          stand.sixth;
      others =
          stands_there whole (others_bytes drawing.others)
          (length header + length variables + length classes + length preview + length frames + length map) (others_place_with carried drawing) five stand.last;
    }

-- it begins with its header
pub canonical_begins : (carried : Carried) (drawing : Contents) → IsCarried carried → size_with carried drawing ≤ MOST_BYTES → IsFileHeader (header_with carried drawing)
    → BeginsWithHeader (canonical_with carried drawing) (header_with carried drawing)
canonical_begins carried drawing one small fits = record { in_range = fits; stands = (parts_stand carried drawing one small fits).begins }

-- so it is read by the version of its drawing
pub canonical_version : (carried : Carried) (drawing : Contents) → IsCarried carried → size_with carried drawing ≤ MOST_BYTES → IsFileHeader (header_with carried drawing)
    → drawing.version ≡ version_at (canonical_with carried drawing)
canonical_version carried drawing one small fits =
    header_gives_version (canonical_with carried drawing) (header_with carried drawing) (canonical_begins carried drawing one small fits)

-- so it spells its drawing
pub carrying_spells : CarryingSpells
carrying_spells carried drawing one is small =
    let fits = header_fits carried drawing is small in
    let stand = parts_stand carried drawing one small fits in
    let whole : List ℕ = canonical_with carried drawing in
    let from : ℕ = objects_place_with carried drawing in
    record {
      header = header_with carried drawing;
      begins = canonical_begins carried drawing one small fits;
      version = refl;
      lead = refl;
      mark = refl;
      code_page = refl;
      variables_place = variables_place drawing;
      variables_located = refl;
      classes_place = classes_place drawing;
      classes_located = refl;
      map_place = map_place_with carried drawing;
      map_located = refl;
      variables = record { size = omega arith; stands = stand.variables };
      class_content = class_content drawing.classes;
      classes_framed = record { size = omega arith; stands = stand.classes };
      classes = content_is_classes drawing.classes is.classes;
      pairs = placed drawing.version from drawing.objects;
      mapped = map_is_written (map_place_with carried drawing) whole (placed drawing.version from drawing.objects) (canonical_ascends carried drawing one is) stand.mapped;
      frames = canonical_frames_with carried drawing;
      framed = pairs_of_frames drawing.version drawing.objects from;
      stand = frames_stand drawing.version drawing.classes whole drawing.objects from (canonical_version carried drawing one small fits) is.objects stand.frames;
      apart = frames_apart drawing.version drawing.objects from;
      objects =
          subst (λ (objects : List ObjectValue). IsPermutation (map (λ (frame : PairFrame). frame.object) (canonical_frames_with carried drawing)) objects)
          (objects_of_frames drawing.version drawing.objects from)
          (IsPermutation-refl (map (λ (frame : PairFrame). frame.object) (canonical_frames_with carried drawing)));
      ascending = is.ascending;
      others = sections_stand carried drawing is stand.others;
    }
  where
    sections_stand : (carried : Carried) (drawing : Contents) → IsValid drawing → StandsAt (canonical_with carried drawing) (others_place_with carried drawing) (others_bytes drawing.others)
        → AreSectionsOf (canonical_with carried drawing) (header_with carried drawing).locators drawing.others
    sections_stand carried drawing is stands =
        inl (omega arith, inl (omega arith, inl (omega arith, others_stand (canonical_with carried drawing) drawing.others (others_place_with carried drawing) is.others stands)))

-- so it has
pub carrying_is_counted : CarryingIsCounted
carrying_is_counted carried drawing one is small =
    let fits = header_fits carried drawing is small in (length_of_canonical carried drawing one small fits, canonical_is_bytes carried drawing one is fits)

-- the preview stands where the header says
pub preview_is_carried : PreviewIsCarried
preview_is_carried carried drawing one is small = record {
  is = (moved_is_content carried.place (preview_place drawing) carried.content one.is (omega (arith, small))).1;
  stands = (parts_stand carried drawing one small (header_fits carried drawing is small)).preview;
}

-- the header of a file whose frames begin at a place
abbrev header_from : ℕ → Contents → FileHeader
header_from from drawing =
    let to : ℕ = from + length (frames_bytes drawing.version drawing.objects) in
    let map : List ℕ = map_bytes (placed drawing.version from drawing.objects) in
    record {
      version = drawing.version;
      lead = drawing.lead;
      preview = preview_place drawing;
      mark = drawing.mark;
      code_page = drawing.code_page;
      locators =
          record { number = 0; place = variables_place drawing; size = 38 + length drawing.variables }
          ∷ record { number = 1; place = classes_place drawing; size = 38 + length (class_content drawing.classes) }
          ∷ record { number = 2; place = to; size = length map }
          ∷ others_located (to + length map) drawing.others;
    }

-- a file by where its frames begin, and its preview
abbrev file_from : Contents → ℕ → List ℕ → List ℕ
file_from drawing from preview =
    header_bytes (header_from from drawing) ++ framed_bytes Variables drawing.variables ++ framed_bytes Classes (class_content drawing.classes) ++ preview
    ++ frames_bytes drawing.version drawing.objects ++ map_bytes (placed drawing.version from drawing.objects) ++ others_bytes drawing.others

-- and carried once more is the same
pub carrying_is_done_once : CarryingIsDoneOnce
unfolding canonical_with
carrying_is_done_once carried drawing one small =
    let place : ℕ = preview_place drawing in
    let below : place + 36 + length carried.content < 2 ^ 32 = omega (arith, small) in
    let long = (moved_is_content carried.place place carried.content one.is below).0 in
    let stays = moved_stays carried.place place carried.content one.is below in
    ap₂ (file_from drawing) (ap (λ n. place + (36 + n)) long) (ap preview_bytes stays)

-- the canonical file of a drawing alone has an empty preview
pub canonical_spells : CanonicalSpells
canonical_spells drawing is small = carrying_spells NO_PICTURE drawing no_picture is small

-- so it has
pub canonical_is_counted : CanonicalIsCounted
canonical_is_counted drawing is small = carrying_is_counted NO_PICTURE drawing no_picture is small

-- an input spells one drawing at the most
abbrev pub SpelledOnce : Type 0
SpelledOnce = (bytes : List ℕ) (drawing other : Contents) → AreBytes bytes → Spelled drawing bytes → Spelled other bytes → drawing ≡ other

-- so the canonical file spells no other
pub carrying_spells_no_other : SpelledOnce → CarryingSpellsNoOther
carrying_spells_no_other once carried drawing other one is small spelled =
    once (canonical_with carried drawing) other drawing (carrying_is_counted carried drawing one is small).1 spelled (carrying_spells carried drawing one is small)

pub canonical_spells_no_other : SpelledOnce → CanonicalSpellsNoOther
canonical_spells_no_other once drawing other is small spelled = carrying_spells_no_other once NO_PICTURE drawing other no_picture is small spelled

-- and reports its drawing
pub canonical_reports_drawing : SpelledOnce → CanonicalGivesDrawing
canonical_reports_drawing once drawing other is also small few same =
    once (canonical other) drawing other (canonical_is_counted other also few).1 (subst (Spelled drawing) same (canonical_spells drawing is small)) (canonical_spells other also few)

-- where an input spells a drawing no line fails
abbrev pub SpelledPasses : Type 0
SpelledPasses = (bytes : List ℕ) (drawing : Contents) → AreBytes bytes → Spelled drawing bytes → first_fault ALL_LINES bytes ≡ None

-- where no line fails an input spells the drawing that is read of it
abbrev pub PassingIsSpelled : Type 0
PassingIsSpelled = (bytes : List ℕ) → AreBytes bytes → first_fault ALL_LINES bytes ≡ None → Spelled (drawing_at bytes) bytes

-- what an input of at most 32 MiB spells is valid
abbrev pub SpelledIsValid : Type 0
SpelledIsValid = (bytes : List ℕ) (drawing : Contents) → AreBytes bytes → length bytes ≤ MOST_BYTES → Spelled drawing bytes → IsValid drawing

-- so the canonical file is read as its drawing
pub canonical_is_read : SpelledOnce → SpelledPasses → PassingIsSpelled → CanonicalIsRead
canonical_is_read once passes spelled drawing is small =
    let none = passes (canonical drawing) drawing (canonical_is_counted drawing is small).1 (canonical_spells drawing is small) in
    (none, canonical_spells_no_other once drawing (drawing_at (canonical drawing)) is small (spelled (canonical drawing) (canonical_is_counted drawing is small).1 none))

-- and rewriting twice is rewriting once
pub rewriting_is_done_once : SpelledOnce → SpelledPasses → PassingIsSpelled → SpelledIsValid → RewritingIsDoneOnce
rewriting_is_done_once once passes spelled valid bytes are few none small =
    let is = valid bytes (drawing_at bytes) are few (spelled bytes are none) in
    let read = canonical_is_read once passes spelled (drawing_at bytes) is small in
    (read.0, ap canonical read.1)
