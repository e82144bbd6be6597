-- The parts of a canonical file that an input has stand in it at their places: the header, the map, the classes and each frame.
use Rattle.std.proofs.Common.{◌≡◌, refl, sym, ◌∙◌, ap, subst, ℕ, ◌+◌, ◌-◌, ◌<◌, ◌≤◌, Bool, true, List, [], ◌∷◌, ◌++◌, length, take, drop, Option, Some, None, arith}
use Rattle.dwg_base.specs.Versions.{version_at}
use Rattle.dwg_base.specs.declared.version.Version.{Version}
use Rattle.std.specs.Prelude.{if◌then◌else◌, Ok}
use Rattle.std.specs.List.{AllByRecursion}
use Rattle.std.specs.Option.{option_and_then, option_or}
use Rattle.std.specs.Result.{result_ok}
use Rattle.std.proofs.lemmas.List.{take-append-drop}
use Rattle.dwg_base.specs.Bytes.{AreBytes, StandsAt}
use Rattle.dwg_base.specs.Devices.{MOST_BYTES}
use Rattle.dwg_base.specs.Refusals.{Tried}
use Rattle.dwg_bits.specs.Bits.{bits}
use Rattle.dwg_classes.specs.declared.class.Class.{Class}
use Rattle.dwg_classes.specs.Class.{AreClasses}
use Rattle.dwg_file.specs.CanonicalFrames.{canonical_frames_with}
use Rattle.dwg_file.specs.Canonical.{Carried, IsCarried, canonical_with, class_content, classes_place, header_with, map_with, map_place_with, objects_place_with, others_place_with, placed, preview_place, size_with, variables_place}
use Rattle.dwg_file.proofs.CanonicalFrames.{frames_stand, objects_of_frames, pairs_of_frames as placed_pairs}
use Rattle.dwg_file.proofs.CanonicalHeader.{header_fits}
use Rattle.dwg_file.proofs.CanonicalLaws.{canonical_ascends, canonical_begins, canonical_version, header_reaches, parts_stand}
use Rattle.dwg_file.specs.CanonicalBytes.{HasPart}
use Rattle.dwg_file.proofs.CanonicalParts.{length_of_framed}
use Rattle.dwg_file.specs.Contents.{Contents}
use Rattle.dwg_file.proofs.ReadingLemmas.{SectionLaws}
use Rattle.dwg_file.specs.Spelled.{PairFrame}
use Rattle.dwg_file.specs.Valid.{IsValid}
use Rattle.dwg_file.proofs.WrittenFrames.{IsWritten}
use Rattle.dwg_object.specs.declared.span.Span.{Span}
use Rattle.dwg_object.specs.Forms.{FormOf}
use Rattle.dwg_object.specs.Heads.{BeginsWithHead}
use Rattle.dwg_object.proofs.FormLaws.{head_of_form, valid_fits, valid_handle, valid_is_form, written_frame}
use Rattle.dwg_object.proofs.FrameLaws.{span_of_frame}
use Rattle.dwg_object.specs.FrameLines.{bytes_from}
use Rattle.dwg_object.specs.Frames.{FrameAt, FrameHolds, frame_bytes}
use Rattle.dwg_object.proofs.HeadLemmas.{begins_head}
use Rattle.dwg_object.specs.Objects.{ObjectValue, handle_of}
use Rattle.dwg_object.proofs.SpanLaws.{tried_span_means}
use Rattle.dwg_object.proofs.StandingLemmas.{drop_stands, stands_drop, stands_within, take_stands}
use Rattle.dwg_object.specs.Written.{body_bytes}
use Rattle.dwg_objmap.proofs.FillingLemmas.{map_is_written}
use Rattle.dwg_objmap.specs.Pages.{MapOf}
use Rattle.dwg_sections.specs.declared.framed.Framed.{Framed}
use Rattle.dwg_sections.specs.declared.framed.Framed.TheVariants as framed
use Rattle.dwg_sections.specs.declared.header.FileHeader.{FileHeader}
use Rattle.dwg_sections.specs.FileHeader.{BeginsWithHeader, header_bytes}
use Rattle.dwg_sections.specs.Framed.{FramedAt, framed_bytes}
use Rattle.dwg_sections.proofs.HeaderComplete.{header_gives_version}
use Rattle.dwg_sections.specs.HeaderLines.{place_of}
use Rattle.dwg_recover.specs.Frames.{span_found}
use Rattle.dwg_recover.specs.Intact.{CanonicalPartsStand, IsPartlyIntact, pairs_framed}
use Rattle.dwg_recover.proofs.FoundParts.{content_is_taken, section_is_whole}
use Rattle.dwg_recover.specs.Recovering.{body_tried, classes_found, frame_body}
use Rattle.dwg_recover.specs.Sections.{classes_of, first_whole, header_of, is_whole, locators_of, number_of_section, section_found, whole_at}

-- what stands in an input stands in each of its length that has that part of it
stands_also : (bytes others piece : List ℕ) (from to : ℕ) → length bytes ≡ length others → StandsAt others from piece → to ≡ from + length piece → bytes_from bytes from to ≡ bytes_from others from to
    → StandsAt bytes from piece
stands_also bytes others piece from to long stands reaches same =
    let count : length piece ≡ to - from = omega (arith, reaches) in
    let here : take (to - from) (drop from bytes) ≡ piece = same ∙ take_stands others from piece (to - from) stands count in
    stands_drop bytes from piece (drop (to - from) (drop from bytes)) (omega (arith, long, stands_within others from piece stands))
    (sym (take-append-drop (to - from) (drop from bytes)) ∙ ap (λ (prefix : List ℕ). prefix ++ drop (to - from) (drop from bytes)) here)

-- the canonical file has its parts at their places
pub canonical_parts_stand : CanonicalPartsStand
canonical_parts_stand carried drawing kept is small =
    let fits = header_fits carried drawing is small in
    let stand = parts_stand carried drawing kept small fits in
    record {
      begins = canonical_begins carried drawing kept small fits;
      reaches = header_reaches carried drawing fits;
      pages = stand.mapped;
      classes = record { size = omega arith; stands = stand.classes };
      mapped =
          subst (MapOf (canonical_with carried drawing) (map_place_with carried drawing)) (placed_pairs drawing.version drawing.objects (objects_place_with carried drawing))
          (map_is_written (map_place_with carried drawing) (canonical_with carried drawing) (placed drawing.version (objects_place_with carried drawing) drawing.objects) (canonical_ascends carried drawing kept is) stand.mapped);
      objects = objects_of_frames drawing.version drawing.objects (objects_place_with carried drawing);
      stand = frames_stand drawing.version drawing.classes (canonical_with carried drawing) drawing.objects (objects_place_with carried drawing) (canonical_version carried drawing kept small fits) is.objects stand.frames;
    }

-- the header and the map of an input that is partly intact
pub record IntactParts (carried : Carried) (drawing : Contents) (bytes : List ℕ) : Type 0 where
  pub begins : BeginsWithHeader bytes (header_with carried drawing)
  pub mapped : MapOf bytes (map_place_with carried drawing) (pairs_framed (canonical_frames_with carried drawing))

-- they are those of the canonical file
pub parts_are_intact : (carried : Carried) (drawing : Contents) (bytes : List ℕ) → IsCarried carried → IsValid drawing → size_with carried drawing ≤ MOST_BYTES → IsPartlyIntact carried drawing bytes → IntactParts carried drawing bytes
parts_are_intact carried drawing bytes kept is small intact =
    let fits = header_fits carried drawing is small in
    let stand = parts_stand carried drawing kept small fits in
    let header : List ℕ = header_bytes (header_with carried drawing) in
    let first : StandsAt (canonical_with carried drawing) 0 header = record { before = []; after = stand.begins.0; whole = stand.begins.1; far = refl } in
    let reaches : variables_place drawing ≡ 0 + length header = omega (arith, header_reaches carried drawing fits) in
    let prefix : StandsAt bytes 0 header = stands_also bytes (canonical_with carried drawing) header 0 (variables_place drawing) intact.long first reaches intact.header in
    let pages : StandsAt bytes (map_place_with carried drawing) (map_with carried drawing) =
    stands_also bytes (canonical_with carried drawing) (map_with carried drawing) (map_place_with carried drawing) (others_place_with carried drawing) intact.long stand.mapped refl intact.mapped in
    record {
      begins = record { in_range = fits; stands = (prefix.after, drop_stands bytes 0 header prefix) };
      mapped =
          subst (MapOf bytes (map_place_with carried drawing)) (placed_pairs drawing.version drawing.objects (objects_place_with carried drawing))
          (map_is_written (map_place_with carried drawing) bytes (placed drawing.version (objects_place_with carried drawing) drawing.objects) (canonical_ascends carried drawing kept is) pages);
    }

-- so it is read by the version of the drawing
pub intact_version : (carried : Carried) (drawing : Contents) (bytes : List ℕ) → IntactParts carried drawing bytes → drawing.version ≡ version_at bytes
intact_version carried drawing bytes parts = header_gives_version bytes (header_with carried drawing) parts.begins

-- the classes of an input that has that part
pub classes_are_intact : (carried : Carried) (drawing : Contents) (bytes : List ℕ) → IsCarried carried → IsValid drawing → size_with carried drawing ≤ MOST_BYTES → IsPartlyIntact carried drawing bytes
    → HasPart carried drawing bytes (classes_place drawing) (preview_place drawing) → FramedAt bytes (classes_place drawing) framed.Classes (class_content drawing.classes)
classes_are_intact carried drawing bytes kept is small intact same =
    let stand = parts_stand carried drawing kept small (header_fits carried drawing is small) in
    let section : List ℕ = framed_bytes framed.Classes (class_content drawing.classes) in
    let reaches : preview_place drawing ≡ classes_place drawing + length section = omega (arith, length_of_framed framed.Classes (class_content drawing.classes)) in
    record { size = omega arith; stands = stands_also bytes (canonical_with carried drawing) section (classes_place drawing) (preview_place drawing) intact.long stand.classes reaches same }

-- and so with the header variables
pub variables_are_intact : (carried : Carried) (drawing : Contents) (bytes : List ℕ) → IsCarried carried → IsValid drawing → size_with carried drawing ≤ MOST_BYTES → IsPartlyIntact carried drawing bytes
    → HasPart carried drawing bytes (variables_place drawing) (classes_place drawing) → FramedAt bytes (variables_place drawing) framed.Variables drawing.variables
variables_are_intact carried drawing bytes kept is small intact same =
    let stand = parts_stand carried drawing kept small (header_fits carried drawing is small) in
    let section : List ℕ = framed_bytes framed.Variables drawing.variables in
    let reaches : classes_place drawing ≡ variables_place drawing + length section = omega (arith, length_of_framed framed.Variables drawing.variables) in
    record { size = omega arith; stands = stands_also bytes (canonical_with carried drawing) section (variables_place drawing) (classes_place drawing) intact.long stand.variables reaches same }

-- the pairs of written frames have positive handles
pub written_positive : (version : Version) (classes : List Class) (bytes : List ℕ) (frames : List PairFrame) → AllByRecursion (IsWritten version classes bytes) frames
    → AllByRecursion (λ (frame : PairFrame). 0 < frame.pair.handle) frames
written_positive version classes bytes [] are = tt
written_positive version classes bytes (frame ∷ frames) are =
    (omega (arith, are.0.own, (valid_handle version classes frame.object are.0.valid).0), written_positive version classes bytes frames are.1)

-- a frame that an input has stands there with the body that is written
pub frame_is_intact : (carried : Carried) (drawing : Contents) (bytes : List ℕ) (frame : PairFrame) → IsPartlyIntact carried drawing bytes → IsWritten drawing.version drawing.classes (canonical_with carried drawing) frame
    → HasPart carried drawing bytes frame.pair.place frame.end → FrameAt bytes frame.pair.place (body_bytes drawing.version frame.object) frame.end
frame_is_intact carried drawing bytes frame intact written same =
    let stands : StandsAt bytes frame.pair.place (frame_bytes drawing.version frame.object) =
    stands_also bytes (canonical_with carried drawing) (frame_bytes drawing.version frame.object) frame.pair.place frame.end intact.long written.stands written.ends same in
    subst (FrameAt bytes frame.pair.place (body_bytes drawing.version frame.object)) (sym written.ends)
    (written_frame drawing.version bytes frame.pair.place frame.object (valid_fits drawing.version drawing.classes frame.object written.valid).2 stands)

-- a frame whose body is read as an object holds with the handle of that object
pub form_holds : (classes : List Class) (bytes : List ℕ) (place : ℕ) (body : List ℕ) (end : ℕ) (object : ObjectValue) → FrameAt bytes place body end → FormOf (version_at bytes) classes body object
    → FrameHolds bytes place (handle_of object) end
form_holds classes bytes place body end object frame form =
    let head = head_of_form (version_at bytes) classes body object form in
    (body, head.0.number, frame, subst (BeginsWithHead (version_at bytes) (bits body) head.0.number) (sym head.3) (begins_head (bits body) head.0 head.1))

-- so a frame that an input has holds there
pub intact_holds : (carried : Carried) (drawing : Contents) (bytes : List ℕ) (frame : PairFrame) → drawing.version ≡ version_at bytes → IsPartlyIntact carried drawing bytes → IsWritten drawing.version drawing.classes (canonical_with carried drawing) frame
    → HasPart carried drawing bytes frame.pair.place frame.end → FrameHolds bytes frame.pair.place frame.pair.handle frame.end
intact_holds carried drawing bytes frame by intact written same =
    subst (λ own. FrameHolds bytes frame.pair.place own frame.end) (sym written.own)
    (form_holds drawing.classes bytes frame.pair.place (body_bytes drawing.version frame.object) frame.end frame.object (frame_is_intact carried drawing bytes frame intact written same)
    (subst (λ (v : Version). FormOf v drawing.classes (body_bytes drawing.version frame.object) frame.object) by (valid_is_form drawing.version drawing.classes frame.object written.valid)))

-- what stands at a place as the body of a frame is found there as one
pub body_is_found : (bytes : List ℕ) (place : ℕ) (body : List ℕ) (end : ℕ) → AreBytes bytes → FrameAt bytes place body end → frame_body bytes place ≡ body
unfolding frame_body span_found
body_is_found bytes place body end are frame =
    let is = span_of_frame bytes place body end frame in
    ap (λ (tried : Tried Span). body_tried bytes (result_ok tried)) ((tried_span_means bytes place 0 (Ok is.span) are).1 (is.framed.stands, is.framed.from)) ∙ is.same_body

-- where the locator of a section leads to a whole one, that one is found
located_is_found : (which : Framed) (bytes : List ℕ) (header : FileHeader) (place : ℕ) → header_of bytes ≡ Some header → place_of (number_of_section which) header.locators ≡ Some place
    → is_whole which bytes place ≡ true → section_found which bytes ≡ Some place
unfolding section_found
located_is_found which bytes header place is located whole =
    ap (λ (header : Option FileHeader). option_or (option_and_then (whole_at which bytes) (place_of (number_of_section which) (locators_of header))) (first_whole which bytes)) is
    ∙ ap (λ (at : Option ℕ). option_or (option_and_then (whole_at which bytes) at) (first_whole which bytes)) located
    ∙ ap (λ (test : Bool). option_or (if test then Some place else None) (first_whole which bytes)) whole

-- so are the header variables
pub variables_are_found : SectionLaws → (bytes : List ℕ) (header : FileHeader) (place : ℕ) (content : List ℕ) → AreBytes bytes → header_of bytes ≡ Some header
    → place_of 0 header.locators ≡ Some place → FramedAt bytes place framed.Variables content → section_found framed.Variables bytes ≡ Some place
variables_are_found laws bytes header place content are is located section =
    located_is_found framed.Variables bytes header place is located ((section_is_whole laws framed.Variables bytes place are).1 (content, section, tt))

-- and the section of the classes
pub class_section_is_found : SectionLaws → (bytes : List ℕ) (header : FileHeader) (place : ℕ) (content : List ℕ) (classes : List Class) → AreBytes bytes → header_of bytes ≡ Some header
    → place_of 1 header.locators ≡ Some place → FramedAt bytes place framed.Classes content → AreClasses content classes → section_found framed.Classes bytes ≡ Some place
class_section_is_found laws bytes header place content classes are is located section cut =
    located_is_found framed.Classes bytes header place is located ((section_is_whole laws framed.Classes bytes place are).1 (content, section, (classes, cut)))

-- so the classes of that section are found
pub classes_are_found : SectionLaws → (bytes : List ℕ) (header : FileHeader) (place : ℕ) (content : List ℕ) (classes : List Class) → AreBytes bytes → header_of bytes ≡ Some header
    → place_of 1 header.locators ≡ Some place → FramedAt bytes place framed.Classes content → AreClasses content classes → classes_found bytes ≡ classes
unfolding classes_found
classes_are_found laws bytes header place content classes are is located section cut =
    ap (classes_of bytes) (class_section_is_found laws bytes header place content classes are is located section cut)
    ∙ (content_is_taken laws bytes place content).1 classes section cut
