-- Every answer of recovery is sound, whether the input spells a drawing or is damaged.
use Rattle.std.proofs.Common.{◌≡◌, ◌≢◌, refl, sym, ◌∙◌, ap, subst, ℕ, suc, ◌+◌, ◌<◌, ◌≤◌, true, false, is_some, List, [], ◌∷◌, length, map, Option, Some, None, inl, inr, arith}
use Rattle.dwg_base.specs.Versions.{version_at}
use Rattle.std.specs.Prelude.{◌⊎◌, AllPairs, slice_index, if◌then◌else◌}
use Rattle.std.specs.List.{AllByRecursion, cons_option}
use Rattle.std.specs.List.Sorted.{IsPermutation}
use Rattle.std.specs.Option.{is_none}
use Rattle.std.specs.Result.{result_unwrap_or}
use Rattle.std.proofs.lemmas.List.Elements.{All-from_recursion}
use Rattle.std.proofs.lemmas.List.Kept.{AllPairs-cons}
use Rattle.std.proofs.lemmas.List.Sorted.{IsPermutation-trans}
use Rattle.dwg_base.specs.Bytes.{AreBytes}
use Rattle.dwg_base.specs.Refusals.{first_fault}
use Rattle.dwg_base.specs.Refusal.{Refusal}
use Rattle.dwg_classes.specs.declared.class.Class.{Class}
use Rattle.dwg_classes.proofs.ClassLineLemmas.{tried_ok}
use Rattle.dwg_file.proofs.CanonicalHeader.{pairs_head, pairs_tail}
use Rattle.dwg_file.specs.Contents.{Contents}
use Rattle.dwg_file.specs.DrawingAt.{drawing_at}
use Rattle.dwg_file.specs.FileLines.{ALL_LINES, frames_tried}
use Rattle.dwg_file.proofs.PassingLemmas.{passing_is_spelled}
use Rattle.dwg_file.proofs.ReadingLemmas.{SectionLaws, spelled_once, spelled_passes}
use Rattle.dwg_file.specs.Spelled.{AreApart, IsFrameOfPair, PairFrame, Spelled}
use Rattle.dwg_file.proofs.ValidLaws.{parts_are_valid, spelled_is_valid, whole_sections_are_read}
use Rattle.dwg_object.proofs.FormLaws.{form_at, form_is_at, forms_same, head_of_form}
use Rattle.dwg_object.proofs.FrameLaws.{held_frame}
use Rattle.dwg_object.specs.Frames.{FrameHolds}
use Rattle.dwg_object.specs.Objects.{ObjectValue}
use Rattle.dwg_objmap.specs.declared.pair.Pair.{Pair}
use Rattle.dwg_objmap.specs.Pages.{AreHandles, MapOf, handles_of}
use Rattle.dwg_recover.specs.declared.frame.Frame.{Frame}
use Rattle.dwg_recover.proofs.ScanKeeping.{scan_adds, scanned_at}
use Rattle.dwg_recover.proofs.FoundLemmas.{candidates_found}
use Rattle.dwg_recover.specs.Frames.{candidates, kept_of, scanned}
use Rattle.dwg_recover.specs.FoundFrames.{frame_of}
use Rattle.dwg_recover.proofs.FoundFrames.{candidates_hold}
use Rattle.dwg_recover.specs.Intact.{pairs_framed}
use Rattle.dwg_recover.specs.Reported.{DamagedIsAnswered, IsValidAnswer, MappedAreReported, RecoveredIsValid, SpelledIsAnswered, named}
use Rattle.dwg_recover.proofs.IntactParts.{body_is_found, form_holds}
use Rattle.dwg_recover.specs.KeptFrames.{AreKept, AreOther}
use Rattle.dwg_recover.proofs.MapKeeping.{mapped_are_numbered}
use Rattle.dwg_recover.specs.ListMembers.{IsOneOf}
use Rattle.dwg_recover.specs.Placing.{IsFound}
use Rattle.dwg_recover.proofs.KeptObjects.{same_objects}
use Rattle.dwg_recover.proofs.RecoveredLaws.{frames_are_kept, parts_are_read}
use Rattle.dwg_recover.specs.Recovering.{RecoveredValue, classes_found, drawing_recovered, frame_body, frames_found, frames_kept, frames_mapped, object_of, pairs_read, recovered, recovered_damaged, recovered_whole, reported}
use Rattle.dwg_recover.proofs.ReportedLemmas.{AreReported, kept_are_reported}
use Rattle.dwg_recover.proofs.WholeLemmas.{candidates_are_found}

-- of a damaged input the answer is sound
damaged_is_valid : SectionLaws → (bytes : List ℕ) → AreBytes bytes → IsValidAnswer bytes (recovered_damaged bytes)
unfolding recovered_damaged drawing_recovered
damaged_is_valid laws bytes are =
    let classes : List Class = classes_found bytes in
    let frames : List Frame = frames_kept bytes in
    let all = kept_are_reported classes bytes frames are (frames_are_kept bytes) in
    record {
      apart = all.apart;
      stand = all.stand;
      objects = IsPermutation-trans _ (map (object_of classes bytes) frames) _ all.objects (same_objects classes bytes frames);
      valid = λ few.
          parts_are_valid (drawing_recovered bytes)
          (parts_are_read laws.header_sound whole_sections_are_read (λ place content classes tried. (tried_ok place content classes).0 tried) bytes are few);
    }

-- a frame that a drawing is spelled with holds
spelled_holds : (classes : List Class) (bytes : List ℕ) (frame : PairFrame) → IsFrameOfPair classes bytes frame → FrameHolds bytes frame.pair.place frame.pair.handle frame.end
spelled_holds classes bytes frame is =
    subst (λ own. FrameHolds bytes frame.pair.place own frame.end) is.own (form_holds classes bytes frame.pair.place frame.body frame.end frame.object is.stands is.form)

-- so frames that it is spelled with are the candidates of their pairs
spelled_candidates : (classes : List Class) (bytes : List ℕ) (frames : List PairFrame) (number : ℕ) → AreBytes bytes → AllByRecursion (IsFrameOfPair classes bytes) frames
    → AllByRecursion (λ handle. 0 < handle) (handles_of (pairs_framed frames)) → candidates bytes number (pairs_framed frames) ≡ named number frames
unfolding candidates
spelled_candidates classes bytes [] number are stand some = refl
spelled_candidates classes bytes (frame ∷ frames) number are stand some =
    ap (λ (found : Option Frame). cons_option found (candidates bytes (number + 1) (pairs_framed frames)))
    ((candidates_hold held_frame bytes number frame.pair frame.end are).0 (some.0, spelled_holds classes bytes frame stand.0))
    ∙ ap (λ (others : List Frame). frame_of number frame.pair frame.end ∷ others) (spelled_candidates classes bytes frames (number + 1) are stand.1 some.1)

-- each of some frames is apart from one, and has another handle
named_differ : (number : ℕ) (first : Frame) (one : PairFrame) (frames : List PairFrame) → first.from ≡ one.pair.place → first.end ≡ one.end → first.handle ≡ one.pair.handle
    → AllByRecursion (AreApart one) frames → AllByRecursion (λ (other : PairFrame). one.pair.handle ≢ other.pair.handle) frames → AllByRecursion (AreOther first) (named number frames)
named_differ number first one [] from end handle apart differ = tt
named_differ number first one (frame ∷ frames) from end handle apart differ =
    (record { apart = of_sides apart.0; handles = λ both. differ.0 (sym handle ∙ both) }, named_differ (number + 1) first one frames from end handle apart.1 differ.1)
  where
    of_sides : AreApart one frame → (first.end ≤ frame.pair.place) ⊎ (frame.end ≤ first.from)
    of_sides (inl before) = inl (omega (arith, end, before))
    of_sides (inr after) = inr (omega (arith, from, after))

-- the handles after the first are others
handles_differ : (first : ℕ) (frames : List PairFrame)
    → ((j : ℕ) → j < length (handles_of (pairs_framed frames)) → first ≢ slice_index (handles_of (pairs_framed frames)) j)
    → AllByRecursion (λ (other : PairFrame). first ≢ other.pair.handle) frames
handles_differ first [] differ = tt
handles_differ first (frame ∷ frames) differ = (differ 0 (omega arith), handles_differ first frames (λ j within. differ (suc j) (omega (arith, within))))

-- frames of pairs with distinct handles that share no byte share nothing
spelled_other : (number : ℕ) (frames : List PairFrame) → AllPairs AreApart frames
    → ((i j : ℕ) → i < j → j < length (handles_of (pairs_framed frames)) → slice_index (handles_of (pairs_framed frames)) i ≢ slice_index (handles_of (pairs_framed frames)) j)
    → AllPairs AreOther (named number frames)
spelled_other number [] apart distinct = λ i j d before within. absurd (omega arith)
spelled_other number (frame ∷ frames) apart distinct =
    let first : Frame = frame_of number frame.pair frame.end in
    let others : List Frame = named (number + 1) frames in
    AllPairs-cons AreOther first others
    (All-from_recursion (AreOther first) others
    (named_differ (number + 1) first frame frames refl refl refl (pairs_head AreApart frame frames apart)
    (handles_differ frame.pair.handle frames (λ j within. distinct 0 (suc j) (omega arith) (omega (arith, within))))))
    (spelled_other (number + 1) frames (pairs_tail AreApart frame frames apart) (λ i j before within. distinct (suc i) (suc j) (omega (arith, before)) (omega (arith, within))))

-- the objects of frames that a drawing is spelled with are what their bodies are read as
spelled_objects : (classes : List Class) (bytes : List ℕ) (frames : List PairFrame) (number : ℕ) → AreBytes bytes → AllByRecursion (IsFrameOfPair classes bytes) frames
    → map (object_of classes bytes) (named number frames) ≡ map (λ (frame : PairFrame). frame.object) frames
spelled_objects classes bytes [] number are stand = refl
spelled_objects classes bytes (frame ∷ frames) number are stand =
    ap (λ object. object ∷ map (object_of classes bytes) (named (number + 1) frames)) here
    ∙ ap (λ (objects : List ObjectValue). frame.object ∷ objects) (spelled_objects classes bytes frames (number + 1) are stand.1)
  where
    here : form_at (version_at bytes) classes (frame_body bytes frame.pair.place) ≡ frame.object
    here =
        let head = head_of_form (version_at bytes) classes frame.body frame.object stand.0.form in
        ap (form_at (version_at bytes) classes) (body_is_found bytes frame.pair.place frame.body frame.end are stand.0.stands)
        ∙ forms_same (version_at bytes) classes frame.body _ _ (form_is_at (version_at bytes) classes frame.body head.0 head.1) stand.0.form

-- the frames that were found of an input that spells a drawing are those that it is spelled with
found_are_spelled : SectionLaws → (drawing : Contents) (bytes : List ℕ) (spelled : Spelled drawing bytes) → AreBytes bytes → first_fault ALL_LINES bytes ≡ None
    → frames_found 0 (result_unwrap_or (frames_tried bytes) []) ≡ named 0 spelled.frames
found_are_spelled laws drawing bytes spelled are none =
    let mapped : MapOf bytes spelled.map_place (pairs_framed spelled.frames) = subst (MapOf bytes spelled.map_place) spelled.framed spelled.mapped in
    sym (candidates_are_found laws bytes spelled.header spelled.map_place (pairs_framed spelled.frames) are none spelled.begins spelled.map_located mapped)
    ∙ spelled_candidates drawing.classes bytes spelled.frames 0 are spelled.stand mapped.handles.positive

-- of an input that spells a drawing the answer is sound
whole_is_valid : SectionLaws → (bytes : List ℕ) → AreBytes bytes → first_fault ALL_LINES bytes ≡ None → IsValidAnswer bytes (recovered_whole bytes)
unfolding recovered_whole
whole_is_valid laws bytes are none = record {
  apart = all.apart;
  stand = all.stand;
  objects =
      IsPermutation-trans _ (map (object_of drawing.classes bytes) frames) _ all.objects
      (subst (λ (objects : List ObjectValue). IsPermutation objects drawing.objects) (sym objects) spelled.objects);
  valid = λ few. spelled_is_valid laws drawing bytes are few spelled;
}
  where
    drawing : Contents
    drawing = drawing_at bytes

    frames : List Frame
    frames = frames_found 0 (result_unwrap_or (frames_tried bytes) [])

    spelled : Spelled drawing bytes
    spelled = passing_is_spelled laws bytes are none

    same : frames ≡ named 0 spelled.frames
    same = found_are_spelled laws drawing bytes spelled are none

    handles : AreHandles (handles_of (pairs_framed spelled.frames))
    handles = subst (λ (pairs : List Pair). AreHandles (handles_of pairs)) spelled.framed spelled.mapped.handles

    kept : AreKept bytes (named 0 spelled.frames)
    kept = record {
      found =
          subst (AllByRecursion (IsFound bytes)) (spelled_candidates drawing.classes bytes spelled.frames 0 are spelled.stand handles.positive)
          (candidates_found bytes 0 (pairs_framed spelled.frames));
      other = spelled_other 0 spelled.frames spelled.apart handles.distinct;
    }

    all : AreReported drawing.classes bytes frames
    all = kept_are_reported drawing.classes bytes frames are (subst (AreKept bytes) (sym same) kept)

    objects : map (object_of drawing.classes bytes) frames ≡ map (λ (frame : PairFrame). frame.object) spelled.frames
    objects = ap (map (object_of drawing.classes bytes)) same ∙ spelled_objects drawing.classes bytes spelled.frames 0 are spelled.stand

-- so every answer is sound
pub recovered_is_valid : SectionLaws → RecoveredIsValid
unfolding recovered
recovered_is_valid laws bytes are = of_fault (first_fault ALL_LINES bytes) refl
  where
    of_fault : (fault : Option Refusal) → first_fault ALL_LINES bytes ≡ fault → IsValidAnswer bytes (if is_none fault then recovered_whole bytes else recovered_damaged bytes)
    of_fault None none = whole_is_valid laws bytes are none
    of_fault (Some refusal) refused = damaged_is_valid laws bytes are

-- what is recovered of an input that spells a drawing is that drawing, and the frames that it is spelled with are reported
pub spelled_is_answered : SectionLaws → SpelledIsAnswered
unfolding recovered recovered_whole
spelled_is_answered laws drawing bytes spelled are = of_fault (first_fault ALL_LINES bytes) none ∙ same (drawing_at bytes) (frames_found 0 (result_unwrap_or (frames_tried bytes) [])) is frames
  where
    none : first_fault ALL_LINES bytes ≡ None
    none = spelled_passes laws drawing bytes are spelled

    is : drawing_at bytes ≡ drawing
    is = spelled_once laws bytes (drawing_at bytes) drawing are (passing_is_spelled laws bytes are none) spelled

    frames : frames_found 0 (result_unwrap_or (frames_tried bytes) []) ≡ named 0 spelled.frames
    frames = found_are_spelled laws drawing bytes spelled are none

    of_fault : (fault : Option Refusal) → fault ≡ None → (if is_none fault then recovered_whole bytes else recovered_damaged bytes) ≡ recovered_whole bytes
    of_fault None holds = refl
    of_fault (Some refusal) holds = absurd cc

    answer : Contents → List Frame → RecoveredValue
    answer = λ one ones. record { drawing = one; refusal = None; losses = []; kept = reported bytes ones }

    same : (one : Contents) (ones : List Frame) → one ≡ drawing → ones ≡ named 0 spelled.frames → answer one ones ≡ answer drawing (named 0 spelled.frames)
    same one ones drawings lists = ap (λ (d : Contents). answer d ones) drawings ∙ ap (answer drawing) lists

-- and of an input that is refused the refusal is reported, with what is recovered of a damaged input
pub damaged_is_answered : DamagedIsAnswered
unfolding recovered recovered_damaged
damaged_is_answered bytes refusal refused =
    (ap (λ (fault : Option Refusal). if is_none fault then recovered_whole bytes else recovered_damaged bytes) refused, refused)

-- frames of the map are reported as mapped, and no others
pub mapped_are_reported : MappedAreReported
unfolding frames_kept frames_mapped
mapped_are_reported bytes frame kept = (of_reported, of_mapped)
  where
    of_part : (kept_of frame).mapped ≡ true → IsOneOf frame (frames_mapped bytes) ⊎ ((frame.from < length bytes) × (scanned (classes_found bytes) bytes frame.from ≡ Some frame)) → IsOneOf frame (frames_mapped bytes)
    of_part reported (inl mapped) = mapped
    of_part reported (inr (within, found)) =
        let none : frame.pair ≡ None = (scanned_at (classes_found bytes) bytes frame.from frame found).1 in
        let both : true ≡ false = sym reported ∙ ap is_some none in absurd cc

    of_reported : (kept_of frame).mapped ≡ true → IsOneOf frame (frames_mapped bytes)
    of_reported reported = of_part reported (scan_adds (classes_found bytes) bytes (frames_mapped bytes) frame kept)

    of_mapped : IsOneOf frame (frames_mapped bytes) → (kept_of frame).mapped ≡ true
    of_mapped mapped = let numbered = mapped_are_numbered bytes (pairs_read bytes) frame mapped in ap is_some numbered.is
