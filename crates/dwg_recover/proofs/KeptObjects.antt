-- The objects of frames that are kept: each is read of the body of its frame, and has its handle.
use Rattle.std.proofs.Common.{◌≡◌, refl, sym, ◌∙◌, ap, subst, ℕ, ◌-◌, ◌<◌, ◌≤◌, Bool, true, false, List, [], ◌∷◌, length, map, Option, Some, None, arith}
use Rattle.dwg_base.specs.Versions.{version_at}
use Rattle.dwg_base.specs.declared.version.Version.{Version}
use Rattle.std.specs.Prelude.{◌≢◌, option_map, slice_index, AllPairs, if◌then◌else◌}
use Rattle.std.specs.List.{AllByRecursion}
use Rattle.std.specs.List.Sorted.{IsPermutation}
use Rattle.std.proofs.lemmas.List.{get_or-map, length-map}
use Rattle.std.proofs.lemmas.List.Elements.{All-from_recursion, recursion_from_All}
use Rattle.std.proofs.lemmas.List.Sorted.{All-permutation, length_permutation}
use Rattle.std.proofs.lemmas.Option.{same_Some}
use Rattle.dwg_base.specs.Bytes.{AreBytes}
use Rattle.dwg_base.specs.Devices.{MOST_BYTES}
use Rattle.dwg_bits.specs.Bits.{bits}
use Rattle.dwg_classes.specs.declared.class.Class.{Class}
use Rattle.dwg_file.specs.ObjectSize.{IsReadOf}
use Rattle.dwg_file.proofs.SectionNumbers.{taken_bytes, taken_few}
use Rattle.dwg_file.specs.SortedObjects.{sorted}
use Rattle.dwg_file.proofs.SortedObjects.{distinct_objects, sorted_ascends, sorted_same}
use Rattle.dwg_file.specs.Spelled.{AreAscending}
use Rattle.dwg_object.specs.declared.span.Span.{Span}
use Rattle.dwg_object.specs.Forms.{FormOf}
use Rattle.dwg_object.specs.Heads.{HasHead}
use Rattle.dwg_object.proofs.FormLaws.{form_at, form_is_at, head_of_form}
use Rattle.dwg_object.specs.FrameLines.{has_check_word, head_at, span_body}
use Rattle.dwg_object.proofs.HeadLemmas.{ReportsHead, head_fits, head_reported, heads_same}
use Rattle.dwg_object.specs.Objects.{HeadParts, ObjectValue, handle_of}
use Rattle.dwg_objmap.specs.Pages.{AreHandles}
use Rattle.dwg_recover.specs.declared.frame.Frame.{Frame}
use Rattle.dwg_recover.specs.Frames.{own_of_span}
use Rattle.dwg_recover.specs.KeptFrames.{AreKept, AreOther, IsRead}
use Rattle.dwg_recover.specs.Placing.{IsFound}
use Rattle.dwg_recover.specs.Recovering.{body_tried, frame_body, object_of, objects_of}

-- the head of a body, whose own handle is a number
record HasOwn (version : Version) (body : List ℕ) (own : ℕ) : Type 0 where
  parts : HeadParts
  has : HasHead version (bits body) parts
  same : parts.own ≡ own

-- a span whose own handle is found has a head with it
own_of_head : (bytes : List ℕ) (span : Span) (own : ℕ) → own_of_span bytes span ≡ Some own → HasOwn (version_at bytes) (span_body bytes span) own
unfolding own_of_span
own_of_head bytes span own is = of_test (has_check_word bytes span) is
  where
    of_head : (reported : Option HeadParts) → ReportsHead (version_at bytes) (bits (span_body bytes span)) reported → option_map (λ (parts : HeadParts). parts.own) reported ≡ Some own → HasOwn (version_at bytes) (span_body bytes span) own
    of_head None reports same = absurd cc
    of_head (Some parts) reports same = record { parts = parts; has = reports; same = same_Some _ _ same }

    of_test : (right : Bool) → (if right then option_map (λ (parts : HeadParts). parts.own) (head_at (version_at bytes) bytes span) else None) ≡ Some own → HasOwn (version_at bytes) (span_body bytes span) own
    of_test true same = of_head (head_at (version_at bytes) bytes span) (head_reported (version_at bytes) (bits (span_body bytes span))) same
    of_test false same = absurd cc

-- a body with a head is read so
read_of_head : (version : Version) (classes : List Class) (body : List ℕ) (own : ℕ) → HasOwn version body own
    → FormOf version classes body (form_at version classes body) × (handle_of (form_at version classes body) ≡ own) × (0 < own)
read_of_head version classes body own head =
    let form = form_is_at version classes body head.parts head.has in
    let reported = head_of_form version classes body (form_at version classes body) form in
    let same : reported.0 ≡ head.parts = heads_same (bits body) reported.0 head.parts reported.1 head.has in
    (form, reported.3 ∙ ap (λ (parts : HeadParts). parts.own) same ∙ head.same, omega (arith, (head_fits (bits body) head.parts head.has).positive, head.same))

-- the body of a frame that was found is that of its span
body_found : (bytes : List ℕ) (frame : Frame) (found : IsFound bytes frame) → frame_body bytes frame.from ≡ span_body bytes found.span
unfolding frame_body
body_found bytes frame found = ap (body_tried bytes) found.stands

-- a frame that was found is read
pub found_is_read : (classes : List Class) (bytes : List ℕ) (frame : Frame) → IsFound bytes frame → IsRead classes bytes frame
found_is_read classes bytes frame found =
    let body : List ℕ = frame_body bytes frame.from in
    let head : HasOwn (version_at bytes) body frame.handle = subst (λ (b : List ℕ). HasOwn (version_at bytes) b frame.handle) (sym (body_found bytes frame found)) (own_of_head bytes found.span frame.handle found.own) in
    let read = read_of_head (version_at bytes) classes body frame.handle head in record { form = read.0; own = read.1; positive = read.2 }

-- the bodies of frames that were found are bytes of the input
body_bytes : (bytes : List ℕ) (frame : Frame) → AreBytes bytes → IsFound bytes frame → AreBytes (frame_body bytes frame.from) × (length (frame_body bytes frame.from) ≤ length bytes)
body_bytes bytes frame are found =
    let same = sym (body_found bytes frame found) in
    let span : Span = found.span in (
      subst AreBytes same (taken_bytes bytes span.body (span.body_end - span.body) are),
      subst (λ (b : List ℕ). length b ≤ length bytes) same (taken_few bytes span.body (span.body_end - span.body)),
    )

-- the objects of frames that were found are read of the input
objects_are_read : (classes : List Class) (bytes : List ℕ) (frames : List Frame) → AreBytes bytes → length bytes ≤ MOST_BYTES → AllByRecursion (IsFound bytes) frames
    → AllByRecursion (IsReadOf (version_at bytes) classes) (map (object_of classes bytes) frames)
objects_are_read classes bytes [] are few found = tt
objects_are_read classes bytes (frame ∷ frames) are few found =
    let body = body_bytes bytes frame are found.0 in (
      record { body = frame_body bytes frame.from; are = body.0; few = omega (arith, few, body.1); form = (found_is_read classes bytes frame found.0).form },
      objects_are_read classes bytes frames are few found.1,
    )

-- they have the handles of their frames
pub handles_read : (classes : List Class) (bytes : List ℕ) (frames : List Frame) → AllByRecursion (IsFound bytes) frames
    → map handle_of (map (object_of classes bytes) frames) ≡ map (λ (frame : Frame). frame.handle) frames
handles_read classes bytes [] found = refl
handles_read classes bytes (frame ∷ frames) found =
    ap (λ own. own ∷ map handle_of (map (object_of classes bytes) frames)) (found_is_read classes bytes frame found.0).own
    ∙ ap (λ (others : List ℕ). frame.handle ∷ others) (handles_read classes bytes frames found.1)

-- these are positive
handles_positive : (bytes : List ℕ) (frames : List Frame) → AllByRecursion (IsFound bytes) frames → AllByRecursion (λ handle. 0 < handle) (map (λ (frame : Frame). frame.handle) frames)
handles_positive bytes [] found = tt
handles_positive bytes (frame ∷ frames) found = ((found_is_read [] bytes frame found.0).positive, handles_positive bytes frames found.1)

-- and distinct
handles_distinct : (frames : List Frame) → AllPairs AreOther frames → (i j : ℕ) → i < j → j < length (map (λ (frame : Frame). frame.handle) frames)
    → slice_index (map (λ (frame : Frame). frame.handle) frames) i ≢ slice_index (map (λ (frame : Frame). frame.handle) frames) j
handles_distinct frames other i j before within same =
    let none : Frame = record { pair = None; handle = 0; from = 0; end = 0 } in
    let there : j < length frames = omega (arith, within, length-map frames (λ (frame : Frame). frame.handle)) in
    (other i j none before there).handles
    (sym (get_or-map (λ (frame : Frame). frame.handle) frames i none 0 (omega arith)) ∙ same ∙ get_or-map (λ (frame : Frame). frame.handle) frames j none 0 there)

-- the handles of frames that are kept
pub handles_kept : (classes : List Class) (bytes : List ℕ) (frames : List Frame) → AreKept bytes frames → AreHandles (map handle_of (map (object_of classes bytes) frames))
handles_kept classes bytes frames are =
    subst AreHandles (sym (handles_read classes bytes frames are.found)) (record { positive = handles_positive bytes frames are.found; distinct = handles_distinct frames are.other })

-- the objects of frames that are kept, in ascending order of handle
pub record AreObjectsRead (classes : List Class) (bytes : List ℕ) (frames : List Frame) : Type 0 where
  pub read : AllByRecursion (IsReadOf (version_at bytes) classes) (objects_of classes bytes frames)
  pub ascending : AreAscending (objects_of classes bytes frames)
  pub count : length (objects_of classes bytes frames) ≡ length frames

-- so they are
pub objects_kept : (classes : List Class) (bytes : List ℕ) (frames : List Frame) → AreBytes bytes → length bytes ≤ MOST_BYTES → AreKept bytes frames → AreObjectsRead classes bytes frames
objects_kept classes bytes frames are few kept =
    let values : List ObjectValue = map (object_of classes bytes) frames in
    let same : IsPermutation values (sorted values) = sorted_same values in
    let read = IsReadOf (version_at bytes) classes in
    record {
      read = recursion_from_All read (sorted values) (All-permutation read values (sorted values) same (All-from_recursion read values (objects_are_read classes bytes frames are few kept.found)));
      ascending = sorted_ascends values (distinct_objects values (handles_kept classes bytes frames kept).distinct);
      count = omega (arith, length_permutation values (sorted values) same, length-map frames (object_of classes bytes));
    }

-- they are those of the frames
pub same_objects : (classes : List Class) (bytes : List ℕ) (frames : List Frame) → IsPermutation (map (object_of classes bytes) frames) (objects_of classes bytes frames)
same_objects classes bytes frames = sorted_same (map (object_of classes bytes) frames)

-- and as many
pub objects_counted : (classes : List Class) (bytes : List ℕ) (frames : List Frame) → length (objects_of classes bytes frames) ≡ length frames
objects_counted classes bytes frames =
    let values : List ObjectValue = map (object_of classes bytes) frames in
    omega (arith, length_permutation values (sorted values) (sorted_same values), length-map frames (object_of classes bytes))
