-- Which frames are kept, said of each by itself: a frame is kept exactly where it shares nothing with those that are kept before it.
use Rattle.std.proofs.Common.{◌≡◌, refl, sym, ◌∙◌, ap, subst, ℕ, zero, suc, ◌+◌, ◌-◌, ◌<◌, ◌≤◌, Bool, true, false, List, [], ◌∷◌, ◌++◌, length, append_assoc, Option, Some, None, inl, inr, arith}
use Rattle.dwg_base.specs.Versions.{version_at}
use Rattle.std.specs.Prelude.{◌≢◌, ◌⊎◌, ◌&&◌, ◌||◌, ◌==◌, not, if◌then◌else◌}
use Rattle.std.specs.List.{AllByRecursion, list_any, range_with_len}
use Rattle.std.specs.Option.{option_and_then}
use Rattle.std.proofs.lemmas.Bool.Decides.{nat_tests}
use Rattle.std.proofs.lemmas.List.{append-nil}
use Rattle.std.proofs.lemmas.List.Sums.{fold-append}
use Rattle.std.proofs.lemmas.Option.{same_Some}
use Rattle.dwg_classes.specs.declared.class.Class.{Class}
use Rattle.dwg_object.specs.declared.span.Span.{Span}
use Rattle.dwg_object.proofs.FormLaws.{form_at}
use Rattle.dwg_object.specs.FrameLines.{span_body}
use Rattle.dwg_recover.specs.declared.frame.Frame.{Frame}
use Rattle.dwg_recover.specs.Frames.{overlaps, is_free, is_new, own_of_span, span_found, has_common_part, scanned_of, scanned, keep_free, scanned_over, with_scanned}
use Rattle.dwg_recover.specs.KeptFrames.{AreBefore, AreOther, ScanKeepsExactly}
use Rattle.dwg_recover.proofs.KeptFrames.{all_apart, all_other, both_hold, others_of}
use Rattle.dwg_recover.specs.ListMembers.{IsOneOf}
use Rattle.dwg_recover.proofs.ListMembers.{cases_of, in_first, in_second, of_joined, one_of_all}

-- the tests of the scan hold exactly where the frame shares nothing with any
tests_hold : (kept : List Frame) (frame : Frame) → ((other : Frame) → IsOneOf other kept → AreOther other frame) → (is_free kept frame.from frame.end && is_new kept frame.handle) ≡ true
tests_hold kept frame all = both (none_overlaps kept all) (none_has kept all)
  where
    both : list_any (overlaps frame.from frame.end) kept ≡ false → list_any (λ (other : Frame). other.handle == frame.handle) kept ≡ false → (is_free kept frame.from frame.end && is_new kept frame.handle) ≡ true
    both free new = ap (λ test. not test && is_new kept frame.handle) free ∙ ap not new

    apart_here : (other : Frame) → AreOther other frame → overlaps frame.from frame.end other ≡ false
    apart_here other differ = grind (arith, nat_tests, differ.apart)

    none_overlaps : (frames : List Frame) → ((other : Frame) → IsOneOf other frames → AreOther other frame) → list_any (overlaps frame.from frame.end) frames ≡ false
    none_overlaps [] all = refl
    none_overlaps (first ∷ frames) all =
        let parts = cases_of (λ other. AreOther other frame) first frames all in
        ap (λ test. test || list_any (overlaps frame.from frame.end) frames) (apart_here first parts.0) ∙ none_overlaps frames parts.1

    other_here : (other : Frame) → AreOther other frame → (other.handle == frame.handle) ≡ false
    other_here other differ = grind (arith, nat_tests, differ.handles)

    none_has : (frames : List Frame) → ((other : Frame) → IsOneOf other frames → AreOther other frame) → list_any (λ (other : Frame). other.handle == frame.handle) frames ≡ false
    none_has [] all = refl
    none_has (first ∷ frames) all =
        let parts = cases_of (λ other. AreOther other frame) first frames all in
        ap (λ test. test || list_any (λ (other : Frame). other.handle == frame.handle) frames) (other_here first parts.0) ∙ none_has frames parts.1

-- and where they hold, it shares nothing with any
others_differ : (kept : List Frame) (frame : Frame) → (is_free kept frame.from frame.end && is_new kept frame.handle) ≡ true → (other : Frame) → IsOneOf other kept → AreOther other frame
others_differ kept frame passed other is =
    let tests = both_hold (is_free kept frame.from frame.end) (is_new kept frame.handle) passed in
    one_of_all (λ (one : Frame). AreOther one frame) kept other (others_of kept frame (all_apart kept frame.from frame.end tests.0) (all_other kept frame.handle tests.1)) is

-- what is scanned at a place stands there
pub scanned_at : (classes : List Class) (bytes : List ℕ) (place : ℕ) (frame : Frame) → scanned classes bytes place ≡ Some frame → (frame.from ≡ place) × (frame.pair ≡ None)
scanned_at classes bytes place frame is = of_span (span_found bytes place) is
  where
    of_test : (span : Span) (own : ℕ) (common : Bool)
        → ◌≡◌ {A = Option Frame} (if common then Some (record { pair = None; handle = own; from = place; end = span.end }) else None) (Some frame) → (frame.from ≡ place) × (frame.pair ≡ None)
    of_test span own true same = subst (λ (one : Frame). (one.from ≡ place) × (one.pair ≡ None)) (same_Some _ _ same) (refl, refl)
    of_test span own false same = absurd cc

    of_own : (span : Span) (own : Option ℕ) → option_and_then (scanned_of classes bytes place span) own ≡ Some frame → (frame.from ≡ place) × (frame.pair ≡ None)
    of_own span None same = absurd cc
    of_own span (Some own) same = of_test span own (has_common_part (form_at (version_at bytes) classes (span_body bytes span))) same

    of_span : (span : Option Span) → option_and_then (λ (span : Span). option_and_then (scanned_of classes bytes place span) (own_of_span bytes span)) span ≡ Some frame
        → (frame.from ≡ place) × (frame.pair ≡ None)
    of_span None same = absurd cc
    of_span (Some span) same = of_own span (own_of_span bytes span) same

-- frames that the scan keeps from a place on
abbrev AreFrom : List Class → List ℕ → ℕ → ℕ → List Frame → Type 0
AreFrom classes bytes low high frames = AllByRecursion (λ (frame : Frame). (low ≤ frame.from) × (frame.from < high) × (frame.pair ≡ None) × (scanned classes bytes frame.from ≡ Some frame)) frames

-- the frames kept at places are those before and some that the scan found there
record Grows (classes : List Class) (bytes : List ℕ) (low high : ℕ) (before after : List Frame) : Type 0 where
  more : List Frame
  whole : after ≡ before ++ more
  are : AreFrom classes bytes low high more

-- what holds from a later place on holds from an earlier one
from_earlier : (classes : List Class) (bytes : List ℕ) (low high : ℕ) (frames : List Frame) → AreFrom classes bytes (low + 1) high frames → AreFrom classes bytes low high frames
from_earlier classes bytes low high [] are = tt
from_earlier classes bytes low high (frame ∷ frames) are = ((omega (arith, are.0.0), are.0.1, are.0.2, are.0.3), from_earlier classes bytes low high frames are.1)

-- one place keeps no frame more, or the one that it has
grows_here : (classes : List Class) (bytes : List ℕ) (place high : ℕ) (kept : List Frame) → place < high → Grows classes bytes place high kept (keep_free kept (scanned classes bytes place))
grows_here classes bytes place high kept below = of_found (scanned classes bytes place) refl
  where
    none_more : Grows classes bytes place high kept kept
    none_more = record { more = []; whole = sym (append-nil kept); are = tt }

    of_test : (frame : Frame) → scanned classes bytes place ≡ Some frame → (test : Bool) → Grows classes bytes place high kept (if test then kept ++ frame ∷ [] else kept)
    of_test frame is true =
        let at = scanned_at classes bytes place frame is in
        record { more = frame ∷ []; whole = refl; are = ((omega (arith, at.0), omega (arith, at.0, below), at.1, ap (scanned classes bytes) at.0 ∙ is), tt) }
    of_test frame is false = none_more

    of_found : (found : Option Frame) → scanned classes bytes place ≡ found → Grows classes bytes place high kept (keep_free kept found)
    of_found None is = none_more
    of_found (Some frame) is = of_test frame is (is_free kept frame.from frame.end && is_new kept frame.handle)

-- so do places
grows_over : (classes : List Class) (bytes : List ℕ) (count place : ℕ) (kept : List Frame) → Grows classes bytes place (place + count) kept (scanned_over classes bytes kept (range_with_len place count))
grows_over classes bytes zero place kept = record { more = []; whole = sym (append-nil kept); are = tt }
grows_over classes bytes (suc count) place kept =
    let here = grows_here classes bytes place (place + suc count) kept (omega arith) in
    let next : List Frame = keep_free kept (scanned classes bytes place) in
    let same : place + 1 + count ≡ place + suc count = omega arith in
    let after = grows_over classes bytes count (place + 1) next in
    record {
      more = here.more ++ after.more;
      whole = after.whole ∙ ap (λ (prefix : List Frame). prefix ++ after.more) here.whole ∙ append_assoc kept here.more after.more;
      are = both here.more after.more here.are (from_earlier classes bytes place (place + suc count) after.more (subst (λ high. AreFrom classes bytes (place + 1) high after.more) same after.are));
    }
  where
    both : (ones others : List Frame) → AreFrom classes bytes place (place + suc count) ones → AreFrom classes bytes place (place + suc count) others → AreFrom classes bytes place (place + suc count) (ones ++ others)
    both [] others are more = more
    both (one ∷ ones) others are more = (are.0, both ones others are.1 more)

-- places in a row, and those after them
ranges_joined : (at low count : ℕ) → range_with_len at (low + count) ≡ range_with_len at low ++ range_with_len (at + low) count
ranges_joined at zero count =
    let none : 0 + count ≡ count = omega arith in
    let here : at ≡ at + 0 = omega arith in
    ap (range_with_len at) none ∙ ap (λ n. range_with_len n count) here
ranges_joined at (suc low) count =
    let more : suc low + count ≡ suc (low + count) = omega arith in
    let next : at + 1 + low ≡ at + suc low = omega arith in
    ap (range_with_len at) more
    ∙ ap (λ (others : List ℕ). at ∷ others) (ranges_joined (at + 1) low count ∙ ap (λ n. range_with_len (at + 1) low ++ range_with_len n count) next)

-- a place splits the places of an input
split_range : (low count : ℕ) → range_with_len 0 (low + count) ≡ range_with_len 0 low ++ range_with_len low count
split_range low count = ranges_joined 0 low count ∙ ap (λ n. range_with_len 0 low ++ range_with_len n count) (zero_first low)
  where
    zero_first : (n : ℕ) → 0 + n ≡ n
    zero_first n = omega arith

-- what the scan keeps, by a place
record IsSplitAt (classes : List Class) (bytes : List ℕ) (mapped : List Frame) (place : ℕ) : Type 0 where
  lesser : List Frame
  after : List Frame
  whole : with_scanned classes bytes mapped ≡ keep_free (mapped ++ lesser) (scanned classes bytes place) ++ after
  lesser_are : AreFrom classes bytes 0 place lesser
  after_are : AreFrom classes bytes (place + 1) (length bytes) after

-- so every place splits it
splits : (classes : List Class) (bytes : List ℕ) (mapped : List Frame) (place : ℕ) → place < length bytes → IsSplitAt classes bytes mapped place
unfolding with_scanned
splits classes bytes mapped place inside =
    let left : ℕ = length bytes - place - 1 in
    let all : length bytes ≡ place + suc left = omega arith in
    let before = grows_over classes bytes place 0 mapped in
    let here : List Frame = keep_free (mapped ++ before.more) (scanned classes bytes place) in
    let after = grows_over classes bytes left (place + 1) here in
    let step = λ (frames : List Frame) (at : ℕ). keep_free frames (scanned classes bytes at) in
    let from_begin : 0 + place ≡ place = omega arith in
    let ends : place + 1 + left ≡ length bytes = omega arith in
    record {
      lesser = before.more;
      after = after.more;
      whole = ap (λ n. scanned_over classes bytes mapped (range_with_len 0 n)) all
          ∙ ap (scanned_over classes bytes mapped) (split_range place (suc left))
          ∙ fold-append step mapped (range_with_len 0 place) (range_with_len place (suc left))
          ∙ ap (λ (frames : List Frame). scanned_over classes bytes frames (range_with_len place (suc left))) before.whole
          ∙ after.whole;
      lesser_are = subst (λ high. AreFrom classes bytes 0 high before.more) from_begin before.are;
      after_are = subst (λ high. AreFrom classes bytes (place + 1) high after.more) ends after.are;
    }

-- a frame of a lesser place isn't at the place, nor is one of a place after
at_another : (classes : List Class) (bytes : List ℕ) (low high : ℕ) (frames : List Frame) (frame : Frame) → AreFrom classes bytes low high frames → IsOneOf frame frames
    → (low ≤ frame.from) × (frame.from < high) × (frame.pair ≡ None)
at_another classes bytes low high frames frame are is =
    let one = one_of_all (λ (frame : Frame). (low ≤ frame.from) × (frame.from < high) × (frame.pair ≡ None) × (scanned classes bytes frame.from ≡ Some frame)) frames frame are is in
    (one.0, one.1, one.2)

-- so the scan keeps exactly what shares nothing with what was kept before
pub scan_keeps_exactly : ScanKeepsExactly
scan_keeps_exactly classes bytes mapped place frame named inside is = (kept_differs, differing_kept)
  where
    split : IsSplitAt classes bytes mapped place
    split = splits classes bytes mapped place inside

    prefix : List Frame
    prefix = mapped ++ split.lesser

    kept : List Frame
    kept = with_scanned classes bytes mapped

    whole : kept ≡ keep_free prefix (Some frame) ++ split.after
    whole = split.whole ∙ ap (λ (found : Option Frame). keep_free prefix found ++ split.after) is

    at : (frame.from ≡ place) × (frame.pair ≡ None)
    at = scanned_at classes bytes place frame is

    -- of the frames at any place, those before this are before
    lies_before : (frames : List Frame) (other : Frame) → kept ≡ frames ++ split.after → (IsOneOf other frames → other.from < place → IsOneOf other prefix) → AreBefore mapped kept place other → IsOneOf other prefix
    lies_before frames other same leads (inl mapped_one) = in_first other mapped split.lesser mapped_one
    lies_before frames other same leads (inr (one, by_scan, less)) = of_parts (of_joined other frames split.after (subst (IsOneOf other) same one))
      where
        of_parts : IsOneOf other frames ⊎ IsOneOf other split.after → IsOneOf other prefix
        of_parts (inl first) = leads first less
        of_parts (inr later) = absurd (omega (arith, less, (at_another classes bytes (place + 1) (length bytes) split.after other split.after_are later).0))

    -- it isn't kept before its place, nor after
    not_lying_before : IsOneOf frame prefix → ⊥
    not_lying_before one = of_parts (of_joined frame mapped split.lesser one)
      where
        of_parts : IsOneOf frame mapped ⊎ IsOneOf frame split.lesser → ⊥
        of_parts (inl mapped_one) = one_of_all (λ (other : Frame). other.pair ≢ None) mapped frame named mapped_one at.1
        of_parts (inr lesser_one) = absurd (omega (arith, at.0, (at_another classes bytes 0 place split.lesser frame split.lesser_are lesser_one).1))

    kept_differs : IsOneOf frame kept → (other : Frame) → AreBefore mapped kept place other → AreOther other frame
    kept_differs one other before = of_test (is_free prefix frame.from frame.end && is_new prefix frame.handle) refl
      where
        with_frame : IsOneOf other (prefix ++ frame ∷ []) → other.from < place → IsOneOf other prefix
        with_frame has less = of_parts (of_joined other prefix (frame ∷ []) has)
          where
            of_parts : IsOneOf other prefix ⊎ IsOneOf other (frame ∷ []) → IsOneOf other prefix
            of_parts (inl first) = first
            of_parts (inr (inl same)) = absurd (omega (arith, less, at.0, ap (λ (f : Frame). f.from) same))
            of_parts (inr (inr none)) = absurd none

        of_test : (test : Bool) → (is_free prefix frame.from frame.end && is_new prefix frame.handle) ≡ test → AreOther other frame
        of_test true passed =
            let same : kept ≡ (prefix ++ frame ∷ []) ++ split.after = whole ∙ ap (λ (t : Bool). (if t then prefix ++ frame ∷ [] else prefix) ++ split.after) passed in
            others_differ prefix frame passed other (lies_before (prefix ++ frame ∷ []) other same with_frame before)
        of_test false failed =
            let same : kept ≡ prefix ++ split.after = whole ∙ ap (λ (t : Bool). (if t then prefix ++ frame ∷ [] else prefix) ++ split.after) failed in
            absurd (of_parts (of_joined frame prefix split.after (subst (IsOneOf frame) same one)))
          where
            of_parts : IsOneOf frame prefix ⊎ IsOneOf frame split.after → ⊥
            of_parts (inl first) = not_lying_before first
            of_parts (inr later) = absurd (omega (arith, at.0, (at_another classes bytes (place + 1) (length bytes) split.after frame split.after_are later).0))

    differing_kept : ((other : Frame) → AreBefore mapped kept place other → AreOther other frame) → IsOneOf frame kept
    differing_kept all =
        let passed = tests_hold prefix frame (λ other one. all other (before_it other (of_joined other mapped split.lesser one))) in
        let same : kept ≡ (prefix ++ frame ∷ []) ++ split.after = whole ∙ ap (λ (t : Bool). (if t then prefix ++ frame ∷ [] else prefix) ++ split.after) passed in
        subst (IsOneOf frame) (sym same) (in_first frame (prefix ++ frame ∷ []) split.after (in_second frame prefix (frame ∷ []) (inl refl)))
      where
        in_kept : (other : Frame) → IsOneOf other prefix → IsOneOf other kept
        in_kept other one = subst (IsOneOf other) (sym whole) (in_first other (keep_free prefix (Some frame)) split.after (of_test (is_free prefix frame.from frame.end && is_new prefix frame.handle)))
          where
            of_test : (test : Bool) → IsOneOf other (if test then prefix ++ frame ∷ [] else prefix)
            of_test true = in_first other prefix (frame ∷ []) one
            of_test false = one

        before_it : (other : Frame) → IsOneOf other mapped ⊎ IsOneOf other split.lesser → AreBefore mapped kept place other
        before_it other (inl mapped_one) = inl mapped_one
        before_it other (inr lesser_one) =
            let are = at_another classes bytes 0 place split.lesser other split.lesser_are lesser_one in
            inr (in_kept other (in_second other mapped split.lesser lesser_one), are.2, are.1)

-- and adds none but what it found
pub scan_adds : (classes : List Class) (bytes : List ℕ) (mapped : List Frame) (frame : Frame) → IsOneOf frame (with_scanned classes bytes mapped)
    → IsOneOf frame mapped ⊎ ((frame.from < length bytes) × (scanned classes bytes frame.from ≡ Some frame))
unfolding with_scanned
scan_adds classes bytes mapped frame is =
    of_part (of_joined frame mapped grown.more (subst (IsOneOf frame) grown.whole is))
  where
    grown : Grows classes bytes 0 (0 + length bytes) mapped (scanned_over classes bytes mapped (range_with_len 0 (length bytes)))
    grown = grows_over classes bytes (length bytes) 0 mapped

    of_part : IsOneOf frame mapped ⊎ IsOneOf frame grown.more → IsOneOf frame mapped ⊎ ((frame.from < length bytes) × (scanned classes bytes frame.from ≡ Some frame))
    of_part (inl before) = inl before
    of_part (inr more) =
        let one = one_of_all (λ (other : Frame). (0 ≤ other.from) × (other.from < 0 + length bytes) × (other.pair ≡ None) × (scanned classes bytes other.from ≡ Some other)) grown.more frame grown.are more in
        inr (omega (arith, one.1), one.3)

-- and leaves those that were kept before it
pub mapped_stay : (classes : List Class) (bytes : List ℕ) (mapped : List Frame) (frame : Frame) → IsOneOf frame mapped → IsOneOf frame (with_scanned classes bytes mapped)
unfolding with_scanned
mapped_stay classes bytes mapped frame is =
    let grown : Grows classes bytes 0 (0 + length bytes) mapped (scanned_over classes bytes mapped (range_with_len 0 (length bytes))) = grows_over classes bytes (length bytes) 0 mapped in
    subst (IsOneOf frame) (sym grown.whole) (in_first frame mapped grown.more is)
