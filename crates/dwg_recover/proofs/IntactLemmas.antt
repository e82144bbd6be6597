-- The intact objects of a damaged canonical file are recovered.
use Rattle.std.proofs.Common.{◌≡◌, refl, sym, ◌∙◌, ap, ap₂, subst, ℕ, ◌≤◌, List, [], length, map, Option, Some, None, inl, inr, arith}
use Rattle.dwg_base.specs.declared.version.Version.{Version}
use Rattle.std.specs.Prelude.{◌⊎◌, if◌then◌else◌}
use Rattle.std.specs.List.{AllByRecursion}
use Rattle.std.specs.Option.{is_none}
use Rattle.std.specs.Result.{result_unwrap_or}
use Rattle.dwg_base.specs.Bytes.{AreBytes}
use Rattle.dwg_base.specs.Devices.{MOST_BYTES}
use Rattle.dwg_base.specs.Refusals.{first_fault}
use Rattle.dwg_base.specs.Refusal.{Refusal}
use Rattle.dwg_classes.specs.declared.class.Class.{Class}
use Rattle.dwg_classes.specs.Class.{AreClasses}
use Rattle.dwg_classes.proofs.ClassLineLemmas.{classes_alike}
use Rattle.dwg_file.specs.CanonicalFrames.{canonical_frames_with}
use Rattle.dwg_file.specs.Canonical.{Carried, IsCarried, canonical_with, class_content, classes_place, header_with, map_place_with, objects_place_with, preview_place, size_with}
use Rattle.dwg_file.specs.CanonicalBytes.{HasPart}
use Rattle.dwg_file.proofs.CanonicalParts.{content_is_classes}
use Rattle.dwg_file.specs.Contents.{Contents}
use Rattle.dwg_file.specs.DrawingAt.{drawing_at}
use Rattle.dwg_file.specs.FileLines.{ALL_LINES, frames_tried}
use Rattle.dwg_file.proofs.PassingLemmas.{passing_is_spelled}
use Rattle.dwg_file.proofs.ReadingLemmas.{SectionLaws}
use Rattle.dwg_file.specs.SortedObjects.{sorted}
use Rattle.dwg_file.proofs.SortedObjects.{sorted_same}
use Rattle.dwg_file.specs.Spelled.{IsFrameOfPair, PairFrame, Spelled}
use Rattle.dwg_file.specs.Valid.{IsValid}
use Rattle.dwg_file.proofs.WrittenFrames.{IsWritten, canonical_written}
use Rattle.dwg_object.proofs.FormLaws.{form_at, form_is_at, forms_same, head_of_form, valid_is_form}
use Rattle.dwg_object.specs.Forms.{FormOf}
use Rattle.dwg_object.proofs.FrameLaws.{held_frame}
use Rattle.dwg_object.specs.Frames.{FrameAt, FrameHolds}
use Rattle.dwg_object.specs.Objects.{ObjectValue}
use Rattle.dwg_object.specs.Written.{IsValidObject, body_bytes}
use Rattle.dwg_objmap.specs.declared.pair.Pair.{Pair}
use Rattle.dwg_objmap.proofs.MapLemmas.{map_is_unique}
use Rattle.dwg_objmap.specs.Pages.{MapOf}
use Rattle.dwg_sections.specs.declared.framed.Framed.TheVariants as framed
use Rattle.dwg_sections.specs.declared.header.FileHeader.{FileHeader}
use Rattle.dwg_sections.specs.Framed.{FramedAt}
use Rattle.dwg_sections.specs.HeaderLines.{place_of}
use Rattle.dwg_recover.specs.declared.frame.Frame.{Frame}
use Rattle.dwg_recover.proofs.ScanKeeping.{mapped_stay}
use Rattle.dwg_recover.proofs.FoundLemmas.{candidates_found, found_placed}
use Rattle.dwg_recover.specs.Frames.{candidates, kept_of, mapped_frames}
use Rattle.dwg_recover.specs.FoundFrames.{frame_of}
use Rattle.dwg_recover.proofs.FoundFrames.{candidates_hold}
use Rattle.dwg_recover.specs.Intact.{IntactObjectsAreKept, IsPartlyIntact, kept_frame, pairs_framed}
use Rattle.dwg_recover.proofs.IntactFrames.{HoldsOrNone, IsKeptFrame, intact_is_kept, one_ordered}
use Rattle.dwg_recover.proofs.IntactMap.{map_is_read}
use Rattle.dwg_recover.proofs.IntactParts.{IntactParts, body_is_found, classes_are_found, classes_are_intact, frame_is_intact, intact_holds, intact_version, parts_are_intact, written_positive}
use Rattle.dwg_recover.specs.ListMembers.{IsOneOf}
use Rattle.dwg_recover.proofs.ListMembers.{all_of_each, mapped_from, one_mapped, one_of_all, one_permuted}
use Rattle.dwg_recover.proofs.FoundParts.{header_is_found}
use Rattle.dwg_recover.specs.Placing.{IsFound}
use Rattle.dwg_recover.specs.Recovering.{RecoveredValue, classes_found, drawing_recovered, frame_body, frames_found, frames_kept, frames_mapped, object_of, pairs_read, recovered, recovered_damaged, recovered_whole, reported}
use Rattle.dwg_recover.specs.Sections.{header_of}
use Rattle.dwg_recover.proofs.WholeLemmas.{candidates_are_found}

-- what is known of a frame that an input has, and of the pairs of its map
record IsIntact (carried : Carried) (drawing : Contents) (bytes : List ℕ) (frame : PairFrame) : Type 0 where
  parts : IntactParts carried drawing bytes
  header : header_of bytes ≡ Some (header_with carried drawing)
  written : IsWritten drawing.version drawing.classes (canonical_with carried drawing) frame
  framed : FrameAt bytes frame.pair.place (body_bytes drawing.version frame.object) frame.end
  kept : IsKeptFrame bytes (pairs_framed (canonical_frames_with carried drawing)) frame

-- each frame of the canonical file holds, or none does at its place
pub each_holds_or_none : (carried : Carried) (drawing : Contents) (bytes : List ℕ) → IsCarried carried → IsValid drawing → size_with carried drawing ≤ MOST_BYTES → IsPartlyIntact carried drawing bytes → AllByRecursion (HoldsOrNone bytes) (canonical_frames_with carried drawing)
each_holds_or_none carried drawing bytes kept is small intact = all_of_each (HoldsOrNone bytes) (canonical_frames_with carried drawing) (λ frame one. of_case frame one (intact.frames frame one))
  where
    of_case : (frame : PairFrame) → IsOneOf frame (canonical_frames_with carried drawing)
        → HasPart carried drawing bytes frame.pair.place frame.end ⊎ ((end : ℕ) → FrameHolds bytes frame.pair.place frame.pair.handle end → ⊥) → HoldsOrNone bytes frame
    of_case frame one (inl same) =
        inl (intact_holds carried drawing bytes frame (intact_version carried drawing bytes (parts_are_intact carried drawing bytes kept is small intact)) intact (one_of_all (IsWritten drawing.version drawing.classes (canonical_with carried drawing)) (canonical_frames_with carried drawing) frame (canonical_written carried drawing kept is small) one) same)
    of_case frame one (inr never) = inr never

-- so a frame that the input has is kept
frame_is_kept : SectionLaws → (carried : Carried) (drawing : Contents) (bytes : List ℕ) (frame : PairFrame) → IsCarried carried → IsValid drawing → size_with carried drawing ≤ MOST_BYTES → AreBytes bytes → IsPartlyIntact carried drawing bytes
    → IsOneOf frame (canonical_frames_with carried drawing) → HasPart carried drawing bytes frame.pair.place frame.end → IsIntact carried drawing bytes frame
frame_is_kept laws carried drawing bytes frame kept is small are intact one same =
    let all = canonical_written carried drawing kept is small in
    let written = one_of_all (IsWritten drawing.version drawing.classes (canonical_with carried drawing)) (canonical_frames_with carried drawing) frame all one in
    let parts = parts_are_intact carried drawing bytes kept is small intact in
    record {
      parts = parts;
      header = header_is_found laws.header_complete bytes (header_with carried drawing) parts.begins;
      written = written;
      framed = frame_is_intact carried drawing bytes frame intact written same;
      kept =
          intact_is_kept (candidates_hold held_frame) bytes drawing.version drawing.objects (objects_place_with carried drawing) frame are is.ascending
          (written_positive drawing.version drawing.classes (canonical_with carried drawing) (canonical_frames_with carried drawing) all) (each_holds_or_none carried drawing bytes kept is small intact) one
          (intact_holds carried drawing bytes frame (intact_version carried drawing bytes parts) intact written same);
    }

-- a candidate that is among frames is reported with them
reported_one : (bytes : List ℕ) (pairs : List Pair) (frames : List Frame) (number : ℕ) (frame : PairFrame) → IsOneOf (frame_of number frame.pair frame.end) (candidates bytes 0 pairs)
    → IsOneOf (frame_of number frame.pair frame.end) frames → IsOneOf (kept_frame frame) (reported bytes frames)
unfolding reported
reported_one bytes pairs frames number frame candidate one =
    let is : Frame = frame_of number frame.pair frame.end in
    let placed = found_placed bytes is (one_of_all (IsFound bytes) (candidates bytes 0 pairs) is (candidates_found bytes 0 pairs) candidate) in
    one_mapped kept_of is _ (one_ordered (length bytes) frames is (omega (arith, placed.some, placed.within)) one)

-- the object that the body of a valid one is read as is that one
read_again : (version : Version) (classes : List Class) (object : ObjectValue) → IsValidObject version classes object → form_at version classes (body_bytes version object) ≡ object
read_again version classes object valid =
    let form = valid_is_form version classes object valid in
    let head = head_of_form version classes (body_bytes version object) object form in
    forms_same version classes (body_bytes version object) _ _ (form_is_at version classes (body_bytes version object) head.0 head.1) form

-- of a damaged input the frame is kept, and its object recovered where the classes are those of the drawing
record IsRecovered (frame : PairFrame) (value : RecoveredValue) (Classes : Type 0) : Type 0 where
  kept : IsOneOf (kept_frame frame) value.kept
  object : Classes → IsOneOf frame.object value.drawing.objects

damaged_recovers : (carried : Carried) (drawing : Contents) (bytes : List ℕ) (frame : PairFrame) → AreBytes bytes → IsIntact carried drawing bytes frame
    → IsRecovered frame (recovered_damaged bytes) (classes_found bytes ≡ drawing.classes)
unfolding recovered_damaged frames_kept frames_mapped drawing_recovered
damaged_recovers carried drawing bytes frame are intact = record { kept = reported_one bytes pairs (frames_kept bytes) intact.kept.at frame intact.kept.candidate among; object = object }
  where
    pairs : List Pair
    pairs = pairs_framed (canonical_frames_with carried drawing)

    read : pairs_read bytes ≡ pairs
    read = map_is_read bytes (header_with carried drawing) (map_place_with carried drawing) pairs intact.header refl intact.parts.mapped

    is : Frame
    is = frame_of intact.kept.at frame.pair frame.end

    among : IsOneOf is (frames_kept bytes)
    among =
        mapped_stay (classes_found bytes) bytes (frames_mapped bytes) is
        (subst (λ (all : List Pair). IsOneOf is (mapped_frames bytes all)) (sym read) intact.kept.kept)

    object : classes_found bytes ≡ drawing.classes → IsOneOf frame.object (drawing_recovered bytes).objects
    object found =
        let same : object_of (classes_found bytes) bytes is ≡ frame.object =
        ap (λ (v : Version). form_at v (classes_found bytes) (frame_body bytes is.from)) (sym (intact_version carried drawing bytes intact.parts))
        ∙ ap₂ (form_at drawing.version) found (body_is_found bytes frame.pair.place (body_bytes drawing.version frame.object) frame.end are intact.framed)
        ∙ read_again drawing.version drawing.classes frame.object intact.written.valid in
        one_permuted frame.object (map (object_of (classes_found bytes) bytes) (frames_kept bytes)) (sorted (map (object_of (classes_found bytes) bytes) (frames_kept bytes)))
        (sorted_same (map (object_of (classes_found bytes) bytes) (frames_kept bytes)))
        (subst (λ (one : ObjectValue). IsOneOf one (map (object_of (classes_found bytes) bytes) (frames_kept bytes))) same (one_mapped (object_of (classes_found bytes) bytes) is (frames_kept bytes) among))

-- the object of a frame that a drawing is spelled with
record IsSpelledFrame (bytes : List ℕ) (drawing : Contents) (pair : Pair) : Type 0 where
  frame : PairFrame
  is : IsFrameOfPair drawing.classes bytes frame
  of_pair : pair ≡ frame.pair
  among : IsOneOf frame.object drawing.objects

-- of an input that spells a drawing, each pair has one
spelled_frame : (bytes : List ℕ) (drawing : Contents) (spelled : Spelled drawing bytes) (pair : Pair) → IsOneOf pair spelled.pairs → IsSpelledFrame bytes drawing pair
spelled_frame bytes drawing spelled pair one =
    let from = mapped_from (λ (frame : PairFrame). frame.pair) pair spelled.frames (subst (IsOneOf pair) spelled.framed one) in
    record {
      frame = from.one;
      is = one_of_all (IsFrameOfPair drawing.classes bytes) spelled.frames from.one spelled.stand from.is;
      of_pair = from.same;
      among =
          one_permuted from.one.object (map (λ (frame : PairFrame). frame.object) spelled.frames) drawing.objects spelled.objects
          (one_mapped (λ (frame : PairFrame). frame.object) from.one spelled.frames from.is);
    }

-- an input that spells a drawing begins with the header that it is spelled with
same_header : SectionLaws → (carried : Carried) (drawing other : Contents) (bytes : List ℕ) (spelled : Spelled other bytes) → IntactParts carried drawing bytes → header_with carried drawing ≡ spelled.header
same_header laws carried drawing other bytes spelled parts =
    (laws.header_complete bytes (header_with carried drawing) parts.begins).1 ∙ sym (laws.header_complete bytes spelled.header spelled.begins).1

-- the classes of a drawing that an input spells are those of the section that it has
spelled_classes : SectionLaws → (carried : Carried) (drawing other : Contents) (bytes : List ℕ) → IsValid drawing → Spelled other bytes → IntactParts carried drawing bytes
    → FramedAt bytes (classes_place drawing) framed.Classes (class_content drawing.classes) → other.classes ≡ drawing.classes
spelled_classes laws carried drawing other bytes is spelled parts section =
    let header = same_header laws carried drawing other bytes spelled parts in
    let place : classes_place drawing ≡ spelled.classes_place = same_place (ap (λ (header : FileHeader). place_of 1 header.locators) header ∙ spelled.classes_located) in
    let own = laws.section_complete framed.Classes (classes_place drawing) bytes (class_content drawing.classes) section in
    let its = laws.section_complete framed.Classes (classes_place drawing) bytes spelled.class_content
    (subst (λ at. FramedAt bytes at framed.Classes spelled.class_content) (sym place) spelled.classes_framed) in
    classes_alike spelled.class_content other.classes drawing.classes spelled.classes
    (subst (λ (content : List ℕ). AreClasses content drawing.classes) (own.1 ∙ sym its.1) (content_is_classes drawing.classes is.classes))
  where
    same_place : Some (classes_place drawing) ≡ Some spelled.classes_place → classes_place drawing ≡ spelled.classes_place
    same_place same = cc

-- of an input that spells a drawing the frame is kept, and its object is one of the drawing's where the classes are those of the canonical file
whole_recovers : SectionLaws → (carried : Carried) (drawing : Contents) (bytes : List ℕ) (frame : PairFrame) → IsValid drawing → AreBytes bytes → first_fault ALL_LINES bytes ≡ None → IsOneOf frame (canonical_frames_with carried drawing)
    → IsIntact carried drawing bytes frame → IsRecovered frame (recovered_whole bytes) (FramedAt bytes (classes_place drawing) framed.Classes (class_content drawing.classes))
unfolding recovered_whole
whole_recovers laws carried drawing bytes frame is are none one intact = record {
  kept =
      reported_one bytes pairs (frames_found 0 (result_unwrap_or (frames_tried bytes) [])) intact.kept.at frame intact.kept.candidate
      (subst (IsOneOf (frame_of intact.kept.at frame.pair frame.end)) (candidates_are_found laws bytes (header_with carried drawing) (map_place_with carried drawing) pairs are none intact.parts.begins refl intact.parts.mapped) intact.kept.candidate);
  object = object;
}
  where
    pairs : List Pair
    pairs = pairs_framed (canonical_frames_with carried drawing)

    spelled : Spelled (drawing_at bytes) bytes
    spelled = passing_is_spelled laws bytes are none

    object : FramedAt bytes (classes_place drawing) framed.Classes (class_content drawing.classes) → IsOneOf frame.object (drawing_at bytes).objects
    object section = subst (λ (object : ObjectValue). IsOneOf object (drawing_at bytes).objects) same its.among
      where
        same_place : Some (map_place_with carried drawing) ≡ Some spelled.map_place → map_place_with carried drawing ≡ spelled.map_place
        same_place located = cc

        all : pairs ≡ spelled.pairs
        all =
            map_is_unique (map_place_with carried drawing) bytes pairs spelled.pairs intact.parts.mapped
            (subst (λ place. MapOf bytes place spelled.pairs) (sym (same_place (ap (λ (header : FileHeader). place_of 2 header.locators) (same_header laws carried drawing (drawing_at bytes) bytes spelled intact.parts) ∙ spelled.map_located))) spelled.mapped)

        its : IsSpelledFrame bytes (drawing_at bytes) frame.pair
        its = spelled_frame bytes (drawing_at bytes) spelled frame.pair (subst (IsOneOf frame.pair) all (one_mapped (λ (frame : PairFrame). frame.pair) frame (canonical_frames_with carried drawing) one))

        body : its.frame.body ≡ body_bytes drawing.version frame.object
        body =
            sym (body_is_found bytes its.frame.pair.place its.frame.body its.frame.end are its.is.stands)
            ∙ ap (λ (pair : Pair). frame_body bytes pair.place) (sym its.of_pair)
            ∙ body_is_found bytes frame.pair.place (body_bytes drawing.version frame.object) frame.end are intact.framed

        classes : (drawing_at bytes).classes ≡ drawing.classes
        classes = spelled_classes laws carried drawing (drawing_at bytes) bytes is spelled intact.parts section

        same : its.frame.object ≡ frame.object
        same =
            forms_same drawing.version drawing.classes (body_bytes drawing.version frame.object) its.frame.object frame.object
            (subst (λ (classes : List Class). FormOf drawing.version classes (body_bytes drawing.version frame.object) its.frame.object) classes
            (subst (λ (body : List ℕ). FormOf drawing.version (drawing_at bytes).classes body its.frame.object) body
            (subst (λ (v : Version). FormOf v (drawing_at bytes).classes its.frame.body its.frame.object) (sym (intact_version carried drawing bytes intact.parts)) its.is.form)))
            (valid_is_form drawing.version drawing.classes frame.object intact.written.valid)

-- so the intact objects are recovered
pub intact_objects_are_kept : SectionLaws → IntactObjectsAreKept
unfolding recovered
intact_objects_are_kept laws carried drawing bytes frame kept is small are intact one same = of_fault (first_fault ALL_LINES bytes) refl
  where
    known : IsIntact carried drawing bytes frame
    known = frame_is_kept laws carried drawing bytes frame kept is small are intact one same

    Recovers : RecoveredValue → Type 0
    Recovers = λ value. IsOneOf (kept_frame frame) value.kept
        × (HasPart carried drawing bytes (classes_place drawing) (preview_place drawing) → IsOneOf frame.object value.drawing.objects)

    of_fault : (fault : Option Refusal) → first_fault ALL_LINES bytes ≡ fault → Recovers (if is_none fault then recovered_whole bytes else recovered_damaged bytes)
    of_fault None none =
        let recovers = whole_recovers laws carried drawing bytes frame is are none one known in
        (recovers.kept, λ has. recovers.object (classes_are_intact carried drawing bytes kept is small intact has))
    of_fault (Some refusal) refused =
        let recovers = damaged_recovers carried drawing bytes frame are known in (
          recovers.kept,
          λ has. recovers.object
              (classes_are_found laws bytes (header_with carried drawing) (classes_place drawing) (class_content drawing.classes) drawing.classes are known.header refl
              (classes_are_intact carried drawing bytes kept is small intact has) (content_is_classes drawing.classes is.classes)),
        )
