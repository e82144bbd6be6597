-- Frames of the canonical file that hold in an input whose map is that file's: no two share a byte or a handle, so each of them is kept.
use Rattle.std.proofs.Common.{◌≡◌, refl, sym, ◌∙◌, ap, subst, ℕ, ◌+◌, ◌<◌, ◌≤◌, List, [], ◌∷◌, ◌++◌, length, Option, Some, None, inl, inr, arith}
use Rattle.dwg_base.specs.declared.version.Version.{Version}
use Rattle.std.specs.Prelude.{◌⊎◌, ◌≢◌, ◌==◌, true}
use Rattle.std.specs.List.{AllByRecursion, cons_option}
use Rattle.std.proofs.lemmas.Bool.Decides.{nat_tests}
use Rattle.dwg_base.specs.Bytes.{AreBytes}
use Rattle.dwg_file.specs.CanonicalFrames.{frames_from}
use Rattle.dwg_file.proofs.CanonicalHeader.{pairs_head, pairs_tail}
use Rattle.dwg_file.specs.Spelled.{AreAscending, PairFrame}
use Rattle.dwg_object.specs.Frames.{FrameHolds, frame_bytes}
use Rattle.dwg_object.specs.Objects.{ObjectValue, handle_of}
use Rattle.dwg_objmap.specs.declared.pair.Pair.{Pair}
use Rattle.dwg_recover.specs.declared.frame.Frame.{Frame}
use Rattle.dwg_recover.proofs.FoundLemmas.{candidates_found, found_placed}
use Rattle.dwg_recover.specs.Frames.{candidate, candidates, in_order_of_place, mapped_frames}
use Rattle.dwg_recover.specs.FoundFrames.{CandidatesHold, frame_of}
use Rattle.dwg_recover.proofs.FoundFrames.{candidate_is}
use Rattle.dwg_recover.specs.Intact.{pairs_framed}
use Rattle.dwg_recover.specs.KeptFrames.{AreOther}
use Rattle.dwg_recover.proofs.MapKeeping.{before_differ, candidates_are_of_pairs, map_keeps_exactly, ordered_is_one}
use Rattle.dwg_recover.specs.ListMembers.{IsAt, IsOneOf, IsSplit}
use Rattle.dwg_recover.proofs.ListMembers.{filtered_one, in_first, one_mapped, one_of_all, one_stays, split_at}
use Rattle.dwg_recover.specs.OrderOfPlace.{AreUp, at_place}
use Rattle.dwg_recover.proofs.OrderOfPlace.{places_are_in_order}
use Rattle.dwg_recover.specs.Placing.{IsFound}
use Rattle.dwg_recover.specs.Reported.{named}

-- the frame of a pair holds, or none holds at its place
abbrev pub HoldsOrNone : List ℕ → PairFrame → Type 0
HoldsOrNone bytes frame = FrameHolds bytes frame.pair.place frame.pair.handle frame.end ⊎ ((end : ℕ) → FrameHolds bytes frame.pair.place frame.pair.handle end → ⊥)

-- where none holds there is no candidate
no_candidate : CandidatesHold → (bytes : List ℕ) (number : ℕ) (pair : Pair) → AreBytes bytes → ((end : ℕ) → FrameHolds bytes pair.place pair.handle end → ⊥) → candidate bytes number pair ≡ None
no_candidate held bytes number pair are never = of_found (candidate bytes number pair) refl
  where
    of_found : (found : Option Frame) → candidate bytes number pair ≡ found → found ≡ None
    of_found None is = refl
    of_found (Some frame) is = absurd (never frame.end ((held bytes number pair frame.end are).1 (is ∙ ap Some (candidate_is bytes number pair frame is))).1)

-- so each candidate is one of the frames
candidates_named : CandidatesHold → (bytes : List ℕ) (frames : List PairFrame) (number : ℕ) → AreBytes bytes → AllByRecursion (λ (frame : PairFrame). 0 < frame.pair.handle) frames
    → AllByRecursion (HoldsOrNone bytes) frames → (one : Frame) → IsOneOf one (candidates bytes number (pairs_framed frames)) → IsOneOf one (named number frames)
unfolding candidates
candidates_named held bytes [] number are some each one is = absurd is
candidates_named held bytes (frame ∷ frames) number are some each one is =
    of_case each.0 is (candidates_named held bytes frames (number + 1) are some.1 each.1 one)
  where
    rest : List Frame
    rest = candidates bytes (number + 1) (pairs_framed frames)

    of_first : IsOneOf one (frame_of number frame.pair frame.end ∷ rest) → (IsOneOf one rest → IsOneOf one (named (number + 1) frames)) → IsOneOf one (named number (frame ∷ frames))
    of_first (inl same) others = inl same
    of_first (inr after) others = inr (others after)

    of_case : HoldsOrNone bytes frame → IsOneOf one (cons_option (candidate bytes number frame.pair) rest) → (IsOneOf one rest → IsOneOf one (named (number + 1) frames)) → IsOneOf one (named number (frame ∷ frames))
    of_case (inl holds) has others =
        of_first (subst (λ (found : Option Frame). IsOneOf one (cons_option found rest)) ((held bytes number frame.pair frame.end are).0 (some.0, holds)) has) others
    of_case (inr never) has others = inr (others (subst (λ (found : Option Frame). IsOneOf one (cons_option found rest)) (no_candidate held bytes number frame.pair are never) has))

-- a frame is a candidate, under the number of its pair
pub record IsCandidate (bytes : List ℕ) (frames : List PairFrame) (frame : PairFrame) : Type 0 where
  pub at : ℕ
  pub is : IsOneOf (frame_of at frame.pair frame.end) (candidates bytes 0 (pairs_framed frames))

-- one that holds is
holds_candidate : CandidatesHold → (bytes : List ℕ) (frames : List PairFrame) (frame : PairFrame) → AreBytes bytes → 0 < frame.pair.handle → FrameHolds bytes frame.pair.place frame.pair.handle frame.end
    → IsOneOf frame frames → IsCandidate bytes frames frame
holds_candidate held bytes frames frame are some holds is =
    let split = split_at frame.pair (pairs_framed frames) (one_mapped (λ (one : PairFrame). one.pair) frame frames is) in
    let number = length split.before in
    record {
      at = number;
      is = (candidates_are_of_pairs bytes (pairs_framed frames) (frame_of number frame.pair frame.end)).1
          (number, frame.pair, record { split = split; far = refl }, (held bytes number frame.pair frame.end are).0 (some, holds));
    }

-- frames of objects one after the other begin at the first place or after it
named_after : (version : Version) (objects : List ObjectValue) (number place : ℕ) (one : Frame) → IsOneOf one (named number (frames_from version place objects)) → place ≤ one.from
named_after version [] number place one is = absurd is
named_after version (object ∷ objects) number place one (inl same) = omega (arith, ap (λ (frame : Frame). frame.from) same)
named_after version (object ∷ objects) number place one (inr after) = omega (arith, named_after version objects (number + 1) (place + length (frame_bytes version object)) one after)

-- and have handles above one that is below those of the objects
named_above : (version : Version) (objects : List ObjectValue) (number place low : ℕ) (one : Frame) → AllByRecursion (λ (object : ObjectValue). low < handle_of object) objects
    → IsOneOf one (named number (frames_from version place objects)) → low < one.handle
named_above version [] number place low one above is = absurd is
named_above version (object ∷ objects) number place low one above (inl same) = omega (arith, above.0, ap (λ (frame : Frame). frame.handle) same)
named_above version (object ∷ objects) number place low one above (inr after) = named_above version objects (number + 1) (place + length (frame_bytes version object)) low one above.1 after

-- so the first shares no byte and no handle with those after it
first_other : (version : Version) (object : ObjectValue) (objects : List ObjectValue) (number place : ℕ) (first one : Frame) → AreAscending (object ∷ objects)
    → first ≡ frame_of number (record { handle = handle_of object; place = place }) (place + length (frame_bytes version object))
    → IsOneOf one (named (number + 1) (frames_from version (place + length (frame_bytes version object)) objects)) → (first.end ≤ one.from) × (first.handle < one.handle)
first_other version object objects number place first one ascending same after = (
  omega (arith, ap (λ (frame : Frame). frame.end) same, named_after version objects (number + 1) (place + length (frame_bytes version object)) one after),
  omega (
    arith,
    ap (λ (frame : Frame). frame.handle) same,
    named_above version objects (number + 1) (place + length (frame_bytes version object)) (handle_of object) one
        (pairs_head (λ one other. handle_of one < handle_of other) object objects ascending) after,
  ),
)

-- two frames of ascending objects that stand one after the other are one, or share no byte and no handle
named_other : (version : Version) (objects : List ObjectValue) (number place : ℕ) (one other : Frame) → AreAscending objects → IsOneOf one (named number (frames_from version place objects))
    → IsOneOf other (named number (frames_from version place objects)) → (one ≡ other) ⊎ AreOther one other
named_other version [] number place one other ascending is was = absurd is
named_other version (object ∷ objects) number place one other ascending (inl same) (inl also) = inl (same ∙ sym also)
named_other version (object ∷ objects) number place one other ascending (inl same) (inr after) =
    let before = first_other version object objects number place one other ascending same after in
    inr (record { apart = inl before.0; handles = λ both. absurd (omega (arith, before.1, both)) })
named_other version (object ∷ objects) number place one other ascending (inr after) (inl same) =
    let before = first_other version object objects number place other one ascending same after in
    inr (record { apart = inr before.0; handles = λ both. absurd (omega (arith, before.1, both)) })
named_other version (object ∷ objects) number place one other ascending (inr after) (inr also) =
    named_other version objects (number + 1) (place + length (frame_bytes version object)) one other (pairs_tail (λ one other. handle_of one < handle_of other) object objects ascending) after also

-- what begins in the input is one of its frames in order of place
pub one_ordered : (most : ℕ) (frames : List Frame) (frame : Frame) → frame.from < most → IsOneOf frame frames → IsOneOf frame (in_order_of_place most frames)
one_ordered most frames frame within is =
    let here : (frame.from == frame.from) ≡ true = same_number frame.from in
    let stays : IsOneOf frame (at_place frames frame.from) = one_stays (λ (one : Frame). one.from == frame.from) frame frames is here in
    (filtered_one (λ (one : Frame). one.from == frame.from) (in_order_of_place most frames) frame
    (subst (IsOneOf frame) (sym ((places_are_in_order most frames).same frame.from within)) stays)).0
  where
    same_number : (n : ℕ) → (n == n) ≡ true
    same_number n = grind (arith, nat_tests)

-- frames before one in order of place begin no later
prefix_begins : (before : List Frame) (frame : Frame) (after : List Frame) (other : Frame) → AreUp (before ++ frame ∷ after) → IsOneOf other before → other.from ≤ frame.from
prefix_begins [] frame after other up is = absurd is
prefix_begins (first ∷ before) frame after other up (inl same) =
    let no_later : first.from ≤ frame.from = one_of_all (λ (one : Frame). first.from ≤ one.from) (before ++ frame ∷ after) frame up.0 (in_middle before) in
    omega (arith, no_later, ap (λ (one : Frame). one.from) same)
  where
    in_middle : (prefix : List Frame) → IsOneOf frame (prefix ++ frame ∷ after)
    in_middle [] = inl refl
    in_middle (one ∷ prefix) = inr (in_middle prefix)
prefix_begins (first ∷ before) frame after other up (inr later) = prefix_begins before frame after other up.1 later

-- candidates that are frames of ascending objects, one after the other, are all kept
all_are_kept : (bytes : List ℕ) (pairs : List Pair) (version : Version) (objects : List ObjectValue) (place : ℕ) → AreAscending objects
    → ((one : Frame) → IsOneOf one (candidates bytes 0 pairs) → IsOneOf one (named 0 (frames_from version place objects)))
    → (frame : Frame) → IsOneOf frame (candidates bytes 0 pairs) → IsOneOf frame (mapped_frames bytes pairs)
all_are_kept bytes pairs version objects place ascending among frame is =
    (map_keeps_exactly bytes pairs split.before frame split.after split.whole).1 (λ other earlier kept. follows other earlier)
  where
    placed : (frame.from < frame.end) × (frame.end ≤ length bytes)
    placed = let one = found_placed bytes frame (one_of_all (IsFound bytes) (candidates bytes 0 pairs) frame (candidates_found bytes 0 pairs) is) in (one.some, one.within)

    split : IsSplit frame (in_order_of_place (length bytes) (candidates bytes 0 pairs))
    split = split_at frame (in_order_of_place (length bytes) (candidates bytes 0 pairs))
        (one_ordered (length bytes) (candidates bytes 0 pairs) frame (omega (arith, placed.0, placed.1)) is)

    follows : (other : Frame) → IsOneOf other split.before → (other.end ≤ frame.from) × (other.handle ≢ frame.handle)
    follows other earlier =
        of_case
        (named_other version objects 0 place other frame ascending
        (among other (ordered_is_one (length bytes) (candidates bytes 0 pairs) other (subst (IsOneOf other) (sym split.whole) (in_first other split.before (frame ∷ split.after) earlier))))
        (among frame is))
      where
        no_later : other.from ≤ frame.from
        no_later = prefix_begins split.before frame split.after other (subst AreUp split.whole (places_are_in_order (length bytes) (candidates bytes 0 pairs)).up) earlier

        of_case : (other ≡ frame) ⊎ AreOther other frame → (other.end ≤ frame.from) × (other.handle ≢ frame.handle)
        of_case (inl same) = absurd (before_differ bytes pairs split.before frame split.after other split.whole earlier (sym (ap (λ (one : Frame). one.pair) same)))
        of_case (inr differ) = (of_sides differ.apart, differ.handles)
          where
            of_sides : (other.end ≤ frame.from) ⊎ (frame.end ≤ other.from) → other.end ≤ frame.from
            of_sides (inl ends) = ends
            of_sides (inr begins) = absurd (omega (arith, begins, no_later, placed.0))

-- so the frame of a pair that holds is kept for the number of that pair
pub numbered_is_kept : CandidatesHold → (bytes : List ℕ) (version : Version) (objects : List ObjectValue) (place number : ℕ) (frame : PairFrame) → AreBytes bytes → AreAscending objects
    → AllByRecursion (λ (one : PairFrame). 0 < one.pair.handle) (frames_from version place objects) → AllByRecursion (HoldsOrNone bytes) (frames_from version place objects)
    → IsAt number frame.pair (pairs_framed (frames_from version place objects)) → 0 < frame.pair.handle → FrameHolds bytes frame.pair.place frame.pair.handle frame.end
    → IsOneOf (frame_of number frame.pair frame.end) (mapped_frames bytes (pairs_framed (frames_from version place objects)))
numbered_is_kept held bytes version objects place number frame are ascending some each at positive holds =
    let frames : List PairFrame = frames_from version place objects in
    all_are_kept bytes (pairs_framed frames) version objects place ascending (candidates_named held bytes frames 0 are some each) (frame_of number frame.pair frame.end)
    ((candidates_are_of_pairs bytes (pairs_framed frames) (frame_of number frame.pair frame.end)).1 (number, frame.pair, at, (held bytes number frame.pair frame.end are).0 (positive, holds)))

-- the frame of a pair is kept, under the number of its pair
pub record IsKeptFrame (bytes : List ℕ) (pairs : List Pair) (frame : PairFrame) : Type 0 where
  pub at : ℕ
  pub candidate : IsOneOf (frame_of at frame.pair frame.end) (candidates bytes 0 pairs)
  pub kept : IsOneOf (frame_of at frame.pair frame.end) (mapped_frames bytes pairs)

-- a frame that holds is kept where each other one holds, or none does at its place
pub intact_is_kept : CandidatesHold → (bytes : List ℕ) (version : Version) (objects : List ObjectValue) (place : ℕ) (frame : PairFrame) → AreBytes bytes → AreAscending objects
    → AllByRecursion (λ (one : PairFrame). 0 < one.pair.handle) (frames_from version place objects) → AllByRecursion (HoldsOrNone bytes) (frames_from version place objects)
    → IsOneOf frame (frames_from version place objects) → FrameHolds bytes frame.pair.place frame.pair.handle frame.end → IsKeptFrame bytes (pairs_framed (frames_from version place objects)) frame
intact_is_kept held bytes version objects place frame are ascending some each is holds =
    let frames : List PairFrame = frames_from version place objects in
    let one = holds_candidate held bytes frames frame are (one_of_all (λ (one : PairFrame). 0 < one.pair.handle) frames frame some is) holds is in
    record {
      at = one.at;
      candidate = one.is;
      kept = all_are_kept bytes (pairs_framed frames) version objects place ascending (candidates_named held bytes frames 0 are some each) (frame_of one.at frame.pair frame.end) one.is;
    }
