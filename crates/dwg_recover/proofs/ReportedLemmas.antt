-- Frames that were found in an input and share nothing, reported in order of place: each follows the one before, and their objects are the same.
use Rattle.std.proofs.Common.{◌≡◌, ◌≢◌, refl, sym, ◌∙◌, ap, ap₂, subst, ℕ, zero, suc, ◌+◌, ◌<◌, ◌≤◌, Bool, true, false, not, List, [], ◌∷◌, ◌++◌, length, map, Some, None, inl, inr, arith, ◌==◌, cond}
use Rattle.std.specs.Prelude.{◌⊎◌, ⊤, ◌&&◌, nat_lt, AllPairs, if◌then◌else◌}
use Rattle.std.specs.List.{AllByRecursion, filter}
use Rattle.std.specs.List.Sorted.{IsPermutation}
use Rattle.std.specs.Option.{option_and_then}
use Rattle.std.proofs.lemmas.Bool.Decides.{nat_tests}
use Rattle.std.proofs.lemmas.List.Sorted.{IsPermutation-refl, IsPermutation-trans, IsPermutation-append_right, IsPermutation-filter_both, IsPermutation-map, IsPermutation-sym}
use Rattle.dwg_base.specs.Bytes.{AreBytes}
use Rattle.dwg_classes.specs.declared.class.Class.{Class}
use Rattle.dwg_file.proofs.CanonicalHeader.{pairs_head, pairs_tail}
use Rattle.dwg_object.specs.declared.span.Span.{Span}
use Rattle.dwg_object.proofs.FrameLaws.{held_frame}
use Rattle.dwg_object.specs.Frames.{FrameAt, FrameHolds}
use Rattle.dwg_object.specs.Objects.{ObjectValue}
use Rattle.dwg_objmap.specs.declared.pair.Pair.{Pair}
use Rattle.dwg_recover.specs.declared.frame.Frame.{Frame}
use Rattle.dwg_recover.specs.declared.loss.Kept.{Kept}
use Rattle.dwg_recover.proofs.FoundLemmas.{all_in_order, found_placed}
use Rattle.dwg_recover.specs.Frames.{candidate, candidate_of, in_order_of_place, kept_of, own_of_span}
use Rattle.dwg_recover.specs.FoundFrames.{frame_of}
use Rattle.dwg_recover.proofs.FoundFrames.{candidates_hold}
use Rattle.dwg_recover.proofs.IntactParts.{body_is_found}
use Rattle.dwg_recover.specs.KeptFrames.{AreKept, AreOther}
use Rattle.dwg_recover.proofs.MapKeeping.{ordered_one}
use Rattle.dwg_recover.specs.ListMembers.{IsOneOf}
use Rattle.dwg_recover.proofs.ListMembers.{all_of_each, filtered_one, of_joined, one_of_all}
use Rattle.dwg_recover.specs.OrderOfPlace.{at_place}
use Rattle.dwg_recover.proofs.OrderOfPlace.{at_places}
use Rattle.dwg_recover.specs.Placing.{IsFound}
use Rattle.dwg_recover.proofs.KeptObjects.{found_is_read}
use Rattle.dwg_recover.specs.Recovering.{frame_body, object_of, reported}
use Rattle.dwg_recover.specs.Reported.{AreDistinguished, IsReported, object_reported}

-- the frames that aren't at a place
abbrev elsewhere : List Frame → ℕ → List Frame
elsewhere frames place = filter (λ (frame : Frame). not (frame.from == place)) frames

-- those elsewhere are all that are at another place
at_other : (frames : List Frame) (low place : ℕ) → low < place → at_place (elsewhere frames low) place ≡ at_place frames place
at_other [] low place above = refl
at_other (frame ∷ frames) low place above = of_test (frame.from == low) refl (at_other frames low place above)
  where
    of_test : (here : Bool) → (frame.from == low) ≡ here → at_place (elsewhere frames low) place ≡ at_place frames place
        → at_place (cond (not here) (frame ∷ elsewhere frames low) (elsewhere frames low)) place ≡ cond (frame.from == place) (frame ∷ at_place frames place) (at_place frames place)
    of_test true known others =
        let other : (frame.from == place) ≡ false = grind (arith, nat_tests, known, above) in
        others ∙ sym (ap (λ test. cond test (frame ∷ at_place frames place) (at_place frames place)) other)
    of_test false known others = ap (λ (more : List Frame). cond (frame.from == place) (frame ∷ more) more) others

-- so are those at places after it
at_others : (frames : List Frame) (low from count : ℕ) → low < from → at_places (elsewhere frames low) from count ≡ at_places frames from count
at_others frames low from zero above = refl
at_others frames low from (suc count) above =
    ap₂ (λ (ones more : List Frame). ones ++ more) (at_other frames low from above) (at_others frames low (from + 1) count (omega (arith, above)))

-- frames from a place on that aren't there begin after it
elsewhere_after : (frames : List Frame) (low high : ℕ) → AllByRecursion (λ (frame : Frame). (low ≤ frame.from) × (frame.from < high)) frames
    → AllByRecursion (λ (frame : Frame). (low + 1 ≤ frame.from) × (frame.from < high)) (elsewhere frames low)
elsewhere_after [] low high all = tt
elsewhere_after (frame ∷ frames) low high all = of_test (frame.from == low) refl (elsewhere_after frames low high all.1)
  where
    of_test : (here : Bool) → (frame.from == low) ≡ here → AllByRecursion (λ (frame : Frame). (low + 1 ≤ frame.from) × (frame.from < high)) (elsewhere frames low)
        → AllByRecursion (λ (frame : Frame). (low + 1 ≤ frame.from) × (frame.from < high)) (cond (not here) (frame ∷ elsewhere frames low) (elsewhere frames low))
    of_test true known others = others
    of_test false known others = ((grind (arith, nat_tests, known, all.0.0), all.0.1), others)

-- frames that begin at places in a row are the frames at those places
places_permute : (count low : ℕ) (frames : List Frame) → AllByRecursion (λ (frame : Frame). (low ≤ frame.from) × (frame.from < low + count)) frames → IsPermutation frames (at_places frames low count)
places_permute zero low [] all = IsPermutation-refl []
places_permute zero low (frame ∷ frames) all = absurd (omega (arith, all.0.0, all.0.1))
places_permute (suc count) low frames all =
    let rest : List Frame = elsewhere frames low in
    let after : IsPermutation rest (at_places rest (low + 1) count) = places_permute count (low + 1) rest (within rest (elsewhere_after frames low (low + suc count) all)) in
    IsPermutation-trans frames (at_place frames low ++ rest) (at_places frames low (suc count))
    (IsPermutation-filter_both (λ (frame : Frame). frame.from == low) (λ (frame : Frame). not (frame.from == low)) (λ frame. refl) frames)
    (IsPermutation-append_right (at_place frames low) rest (at_places frames (low + 1) count)
    (subst (IsPermutation rest) (at_others frames low (low + 1) count (omega arith)) after))
  where
    within : (others : List Frame) → AllByRecursion (λ (frame : Frame). (low + 1 ≤ frame.from) × (frame.from < low + suc count)) others
        → AllByRecursion (λ (frame : Frame). (low + 1 ≤ frame.from) × (frame.from < low + 1 + count)) others
    within [] all = tt
    within (frame ∷ others) all = ((all.0.0, omega (arith, all.0.1)), within others all.1)

-- so the order of place leaves none out and adds none
order_permutes : (most : ℕ) (frames : List Frame) → AllByRecursion (λ (frame : Frame). frame.from < most) frames → IsPermutation frames (in_order_of_place most frames)
unfolding in_order_of_place
order_permutes most frames all = places_permute most 0 frames (from_zero frames all)
  where
    from_zero : (others : List Frame) → AllByRecursion (λ (frame : Frame). frame.from < most) others → AllByRecursion (λ (frame : Frame). (0 ≤ frame.from) × (frame.from < 0 + most)) others
    from_zero [] all = tt
    from_zero (frame ∷ others) all = ((omega arith, omega (arith, all.0)), from_zero others all.1)

-- two of frames that share nothing are one, or share nothing
two_differ : (frames : List Frame) (one other : Frame) → AllPairs AreOther frames → IsOneOf one frames → IsOneOf other frames → (one ≡ other) ⊎ AreOther one other
two_differ [] one other all is was = absurd is
two_differ (first ∷ frames) one other all (inl same) (inl also) = inl (same ∙ sym also)
two_differ (first ∷ frames) one other all (inl same) (inr after) =
    inr (subst (λ (frame : Frame). AreOther frame other) (sym same) (one_of_all (AreOther first) frames other (pairs_head AreOther first frames all) after))
two_differ (first ∷ frames) one other all (inr after) (inl same) =
    let differ = one_of_all (AreOther first) frames one (pairs_head AreOther first frames all) after in
    inr (subst (AreOther one) (sym same) (record { apart = of_sides differ.apart; handles = λ both. differ.handles (sym both) }))
  where
    of_sides : (first.end ≤ one.from) ⊎ (one.end ≤ first.from) → (one.end ≤ first.from) ⊎ (first.end ≤ one.from)
    of_sides (inl before) = inr before
    of_sides (inr later) = inl later
two_differ (first ∷ frames) one other all (inr after) (inr also) = two_differ frames one other (pairs_tail AreOther first frames all) after also

-- frames of which each ends before those after it begin, and has another handle
abbrev Follow : List Frame → Type 0
Follow [] = ⊤
Follow (frame ∷ frames) = AllByRecursion (λ (other : Frame). (frame.end ≤ other.from) × (frame.handle ≢ other.handle)) frames × Follow frames

-- at one place there is at most one of frames that have bytes and share none
one_at_place : (frames : List Frame) (place : ℕ) → AllPairs AreOther frames → AllByRecursion (λ (frame : Frame). frame.from < frame.end) frames → Follow (at_place frames place)
one_at_place [] place all some = tt
one_at_place (first ∷ frames) place all some = of_test (first.from == place) refl (one_at_place frames place (pairs_tail AreOther first frames all) some.1)
  where
    follows : (first.from == place) ≡ true → (other : Frame) → IsOneOf other (at_place frames place) → (first.end ≤ other.from) × (first.handle ≢ other.handle)
    follows here other is =
        let among = filtered_one (λ (frame : Frame). frame.from == place) frames other is in
        let differ = one_of_all (AreOther first) frames other (pairs_head AreOther first frames all) among.0 in
        let other_some : other.from < other.end = one_of_all (λ (frame : Frame). frame.from < frame.end) frames other some.1 among.0 in
        absurd (never here among.1 differ.apart other_some)
      where
        never : (first.from == place) ≡ true → (other.from == place) ≡ true → (first.end ≤ other.from) ⊎ (other.end ≤ first.from) → other.from < other.end → ⊥
        never here there (inl before) other_some = grind (arith, nat_tests, here, there, before, some.0)
        never here there (inr after) other_some = grind (arith, nat_tests, here, there, after, other_some)

    of_test : (here : Bool) → (first.from == place) ≡ here → Follow (at_place frames place) → Follow (cond here (first ∷ at_place frames place) (at_place frames place))
    of_test true here others = (all_of_each (λ (other : Frame). (first.end ≤ other.from) × (first.handle ≢ other.handle)) (at_place frames place) (λ other is. follows here other is), others)
    of_test false here others = others

-- two lists, of which each of the first comes before each of the second
follow_joined : (ones others : List Frame) → Follow ones → Follow others
    → ((one other : Frame) → IsOneOf one ones → IsOneOf other others → (one.end ≤ other.from) × (one.handle ≢ other.handle)) → Follow (ones ++ others)
follow_joined [] others first second before = second
follow_joined (one ∷ ones) others first second before = (
  all_of_each (λ (other : Frame). (one.end ≤ other.from) × (one.handle ≢ other.handle)) (ones ++ others) (λ other is. of_parts other (of_joined other ones others is)),
  follow_joined ones others first.1 second (λ next other is was. before next other (inr is) was),
)
  where
    of_parts : (other : Frame) → IsOneOf other ones ⊎ IsOneOf other others → (one.end ≤ other.from) × (one.handle ≢ other.handle)
    of_parts other (inl near) = one_of_all (λ (other : Frame). (one.end ≤ other.from) × (one.handle ≢ other.handle)) ones other first.0 near
    of_parts other (inr far) = before one other (inl refl) far

-- frames that have bytes and share none follow each other at places in a row
places_follow : (frames : List Frame) (low count : ℕ) → AllPairs AreOther frames → AllByRecursion (λ (frame : Frame). frame.from < frame.end) frames → Follow (at_places frames low count)
places_follow frames low zero all some = tt
places_follow frames low (suc count) all some =
    follow_joined (at_place frames low) (at_places frames (low + 1) count) (one_at_place frames low all some) (places_follow frames (low + 1) count all some)
    (λ one other is was.
    let first = filtered_one (λ (frame : Frame). frame.from == low) frames one is in
    let second = ordered_one frames (low + 1) count other was in
    let other_some : other.from < other.end = one_of_all (λ (frame : Frame). frame.from < frame.end) frames other some second.0 in
    of_case one other first.1 second.1 other_some (two_differ frames one other all first.0 second.0))
  where
    of_case : (one other : Frame) → (one.from == low) ≡ true → low + 1 ≤ other.from → other.from < other.end → (one ≡ other) ⊎ AreOther one other → (one.end ≤ other.from) × (one.handle ≢ other.handle)
    of_case one other here later other_some (inl same) =
        let both : one.from ≡ other.from = ap (λ (frame : Frame). frame.from) same in absurd (grind (arith, nat_tests, here, later, both))
    of_case one other here later other_some (inr differ) = (of_sides here differ.apart, differ.handles)
      where
        of_sides : (one.from == low) ≡ true → (one.end ≤ other.from) ⊎ (other.end ≤ one.from) → one.end ≤ other.from
        of_sides here (inl before) = before
        of_sides here (inr after) = absurd (grind (arith, nat_tests, here, later, other_some, after))

-- frames in order of place follow each other
follow_in_order : (most : ℕ) (frames : List Frame) → AllPairs AreOther frames → AllByRecursion (λ (frame : Frame). frame.from < frame.end) frames → Follow (in_order_of_place most frames)
unfolding in_order_of_place
follow_in_order most frames all some = places_follow frames 0 most all some

-- so they are distinguished
distinguished : (frames : List Frame) → Follow frames → AreDistinguished (map kept_of frames)
distinguished [] follow = tt
distinguished (frame ∷ frames) follow = (of_rest frames follow.0, distinguished frames follow.1)
  where
    of_rest : (others : List Frame) → AllByRecursion (λ (other : Frame). (frame.end ≤ other.from) × (frame.handle ≢ other.handle)) others
        → AllByRecursion (λ (other : Kept). (frame.end ≤ other.from) × (frame.handle ≢ other.handle)) (map kept_of others)
    of_rest [] all = tt
    of_rest (other ∷ others) all = (all.0, of_rest others all.1)

-- a frame that was found holds there
found_holds : (bytes : List ℕ) (frame : Frame) → AreBytes bytes → IsFound bytes frame → FrameHolds bytes frame.from frame.handle frame.end
found_holds bytes frame are found = ((candidates_hold held_frame bytes 0 pair frame.end are).1 is).1
  where
    pair : Pair
    pair = record { handle = frame.handle; place = frame.from }

    passes : (handle : ℕ) → 0 < handle → (nat_lt 0 handle && (handle == handle)) ≡ true
    passes handle some = grind (arith, nat_tests, some)

    is : candidate bytes 0 pair ≡ Some (frame_of 0 pair frame.end)
    is =
        ap (option_and_then (λ (span : Span). option_and_then (candidate_of 0 pair span) (own_of_span bytes span))) found.stands
        ∙ ap (option_and_then (candidate_of 0 pair found.span)) found.own
        ∙ ap (λ (test : Bool). if test then Some (frame_of 0 pair found.span.end) else None) (passes frame.handle (found_is_read [] bytes frame found).positive)
        ∙ ap (λ end. Some (frame_of 0 pair end)) (sym found.ends)

-- so it is reported as it stands
found_is_reported : (classes : List Class) (bytes : List ℕ) (frame : Frame) → AreBytes bytes → IsFound bytes frame → IsReported classes bytes (kept_of frame)
found_is_reported classes bytes frame are found =
    let holds = found_holds bytes frame are found in
    let body : frame_body bytes frame.from ≡ holds.0 = body_is_found bytes frame.from holds.0 frame.end are holds.2 in
    let read = found_is_read classes bytes frame found in
    record { stands = subst (λ (body : List ℕ). FrameAt bytes frame.from body frame.end) (sym body) holds.2; form = read.form; own = read.own }

-- what is reported of frames that were found in an input and share nothing
pub record AreReported (classes : List Class) (bytes : List ℕ) (frames : List Frame) : Type 0 where
  pub apart : AreDistinguished (reported bytes frames)
  pub stand : AllByRecursion (IsReported classes bytes) (reported bytes frames)
  pub objects : IsPermutation (map (object_reported classes bytes) (reported bytes frames)) (map (object_of classes bytes) frames)

-- so they are reported
pub kept_are_reported : (classes : List Class) (bytes : List ℕ) (frames : List Frame) → AreBytes bytes → AreKept bytes frames → AreReported classes bytes frames
unfolding reported
kept_are_reported classes bytes frames are kept = record {
  apart = distinguished ordered (follow_in_order (length bytes) frames kept.other (some frames kept.found));
  stand = all_reported ordered (all_in_order (IsFound bytes) (length bytes) frames kept.found);
  objects =
      IsPermutation-sym (map (object_of classes bytes) frames) (map (object_reported classes bytes) (map kept_of ordered))
      (subst (IsPermutation (map (object_of classes bytes) frames)) (mapped ordered)
      (IsPermutation-map (object_of classes bytes) frames ordered (order_permutes (length bytes) frames (within frames kept.found))));
}
  where
    ordered : List Frame
    ordered = in_order_of_place (length bytes) frames

    some : (others : List Frame) → AllByRecursion (IsFound bytes) others → AllByRecursion (λ (frame : Frame). frame.from < frame.end) others
    some [] all = tt
    some (frame ∷ others) all = ((found_placed bytes frame all.0).some, some others all.1)

    within : (others : List Frame) → AllByRecursion (IsFound bytes) others → AllByRecursion (λ (frame : Frame). frame.from < length bytes) others
    within [] all = tt
    within (frame ∷ others) all = let placed = found_placed bytes frame all.0 in (omega (arith, placed.some, placed.within), within others all.1)

    all_reported : (others : List Frame) → AllByRecursion (IsFound bytes) others → AllByRecursion (IsReported classes bytes) (map kept_of others)
    all_reported [] all = tt
    all_reported (frame ∷ others) all = (found_is_reported classes bytes frame are all.0, all_reported others all.1)

    mapped : (others : List Frame) → map (object_of classes bytes) others ≡ map (object_reported classes bytes) (map kept_of others)
    mapped [] = refl
    mapped (frame ∷ others) = ap (λ (objects : List ObjectValue). object_of classes bytes frame ∷ objects) (mapped others)
