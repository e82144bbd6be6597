-- Which frames are kept for pairs of the map, said of each by itself: one is kept exactly where it lies after those that are kept before it, and has a new handle.
use Rattle.std.proofs.Common.{◌≡◌, refl, sym, ◌∙◌, ap, subst, ℕ, zero, suc, ◌+◌, ◌≤◌, Bool, true, false, List, [], ◌∷◌, ◌++◌, length, append_assoc, Option, Some, None, inl, inr, arith}
use Rattle.std.specs.Prelude.{◌≢◌, ◌⊎◌, ◌↔◌, ◌&&◌, ◌||◌, ◌==◌, ⊤, cond, not, fold, if◌then◌else◌}
use Rattle.std.specs.List.{AllByRecursion, cons_option, filter, list_any}
use Rattle.std.proofs.lemmas.Bool.Decides.{nat_tests}
use Rattle.std.proofs.lemmas.List.{append-nil}
use Rattle.std.proofs.lemmas.List.Sums.{fold-append}
use Rattle.std.proofs.lemmas.Option.{same_Some}
use Rattle.dwg_objmap.specs.declared.pair.Pair.{Pair}
use Rattle.dwg_recover.specs.declared.frame.Frame.{Frame}
use Rattle.dwg_recover.specs.Frames.{candidate, candidates, follows, in_order_of_place, is_new, keep_mapped, mapped_frames, mapped_of}
use Rattle.dwg_recover.proofs.FoundFrames.{candidate_is}
use Rattle.dwg_recover.proofs.KeptFrames.{all_end, all_other, both_hold, ends_follow}
use Rattle.dwg_recover.specs.OrderOfPlace.{at_place}
use Rattle.dwg_recover.proofs.OrderOfPlace.{at_places}
use Rattle.dwg_recover.specs.ListMembers.{IsAt, IsOneOf}
use Rattle.dwg_recover.proofs.ListMembers.{at_cases, at_first, at_next, filtered_one, in_first, in_second, none_at, of_joined, one_of_all}
use Rattle.dwg_recover.specs.FoundFrames.{CandidatesAreOfPairs}
use Rattle.dwg_recover.specs.KeptFrames.{MapKeepsExactly}

-- no two frames were found for one pair
abbrev AreDistinct : List Frame → Type 0
AreDistinct [] = ⊤
AreDistinct (frame ∷ frames) = ((other : Frame) → IsOneOf other frames → other.pair ≢ frame.pair) × AreDistinct frames

-- frames of the two parts of a list are those of two pairs
parts_differ : (ones others : List Frame) (one other : Frame) → AreDistinct (ones ++ others) → IsOneOf one ones → IsOneOf other others → other.pair ≢ one.pair
parts_differ [] others one other distinct is was = absurd is
parts_differ (first ∷ ones) others one other distinct (inl same) was =
    subst (λ (frame : Frame). other.pair ≢ frame.pair) (sym same) (distinct.0 other (in_second other ones others was))
parts_differ (first ∷ ones) others one other distinct (inr after) was = parts_differ ones others one other distinct.1 after was

-- the part after the first is distinct
second_distinct : (ones others : List Frame) → AreDistinct (ones ++ others) → AreDistinct others
second_distinct [] others distinct = distinct
second_distinct (first ∷ ones) others distinct = second_distinct ones others distinct.1

-- what candidates add to those kept before
record GrowsBy (kept candidates all : List Frame) : Type 0 where
  more : List Frame
  whole : all ≡ kept ++ more
  among : (frame : Frame) → IsOneOf frame more → IsOneOf frame candidates

-- they add none but themselves
grows_by : (kept frames : List Frame) → GrowsBy kept frames (fold keep_mapped kept frames)
grows_by kept [] = record { more = []; whole = sym (append-nil kept); among = λ frame none. none }
grows_by kept (first ∷ frames) = of_test (follows kept first.from && is_new kept first.handle) refl (grows_by (kept ++ first ∷ []) frames) (grows_by kept frames)
  where
    of_test : (test : Bool) → (follows kept first.from && is_new kept first.handle) ≡ test → GrowsBy (kept ++ first ∷ []) frames (fold keep_mapped (kept ++ first ∷ []) frames)
        → GrowsBy kept frames (fold keep_mapped kept frames) → GrowsBy kept (first ∷ frames) (fold keep_mapped (if test then kept ++ first ∷ [] else kept) frames)
    of_test true passed taken left = record {
      more = first ∷ taken.more;
      whole = taken.whole ∙ append_assoc kept (first ∷ []) taken.more;
      among = λ frame is. among_taken frame is;
    }
      where
        among_taken : (frame : Frame) → IsOneOf frame (first ∷ taken.more) → IsOneOf frame (first ∷ frames)
        among_taken frame (inl same) = inl same
        among_taken frame (inr after) = inr (taken.among frame after)
    of_test false failed taken left = record { more = left.more; whole = left.whole; among = λ frame is. inr (left.among frame is) }

-- so it is of any distinct candidates
exact_of : (before : List Frame) (frame : Frame) (after : List Frame) → AreDistinct (before ++ frame ∷ after)
    → IsOneOf frame (mapped_of (before ++ frame ∷ after))
    ↔ ((other : Frame) → IsOneOf other before → IsOneOf other (mapped_of (before ++ frame ∷ after)) → (other.end ≤ frame.from) × (other.handle ≢ frame.handle))
exact_of before frame after distinct = (kept_follows, following_kept)
  where
    kept : List Frame
    kept = mapped_of before

    lesser : GrowsBy [] before kept
    lesser = grows_by [] before

    later : GrowsBy (keep_mapped kept frame) after (fold keep_mapped (keep_mapped kept frame) after)
    later = grows_by (keep_mapped kept frame) after

    all : List Frame
    all = mapped_of (before ++ frame ∷ after)

    whole : all ≡ keep_mapped kept frame ++ later.more
    whole = fold-append keep_mapped [] before (frame ∷ after) ∙ later.whole

    with_test : (test : Bool) → (follows kept frame.from && is_new kept frame.handle) ≡ test → all ≡ (if test then kept ++ frame ∷ [] else kept) ++ later.more
    with_test test is = whole ∙ ap (λ (t : Bool). (if t then kept ++ frame ∷ [] else kept) ++ later.more) is

    among_before : (other : Frame) → IsOneOf other kept → IsOneOf other before
    among_before other is = lesser.among other (subst (IsOneOf other) lesser.whole is)

    not_before : IsOneOf frame before → ⊥
    not_before is = parts_differ before (frame ∷ after) frame frame distinct is (inl refl) refl

    not_after : IsOneOf frame after → ⊥
    not_after is = (second_distinct before (frame ∷ after) distinct).0 frame is refl

    kept_follows : IsOneOf frame all → (other : Frame) → IsOneOf other before → IsOneOf other all → (other.end ≤ frame.from) × (other.handle ≢ frame.handle)
    kept_follows is other earlier also = of_test (follows kept frame.from && is_new kept frame.handle) refl
      where
        is_kept : IsOneOf other ((kept ++ frame ∷ []) ++ later.more) → IsOneOf other kept
        is_kept has = of_parts (of_joined other (kept ++ frame ∷ []) later.more has)
          where
            of_prefix : IsOneOf other kept ⊎ IsOneOf other (frame ∷ []) → IsOneOf other kept
            of_prefix (inl one) = one
            of_prefix (inr (inl same)) = absurd (not_before (subst (λ (f : Frame). IsOneOf f before) same earlier))
            of_prefix (inr (inr none)) = absurd none

            of_parts : IsOneOf other (kept ++ frame ∷ []) ⊎ IsOneOf other later.more → IsOneOf other kept
            of_parts (inl prefix) = of_prefix (of_joined other kept (frame ∷ []) prefix)
            of_parts (inr more) = absurd (parts_differ before (frame ∷ after) other other distinct earlier (inr (later.among other more)) refl)

        of_test : (test : Bool) → (follows kept frame.from && is_new kept frame.handle) ≡ test → (other.end ≤ frame.from) × (other.handle ≢ frame.handle)
        of_test true passed =
            let tests = both_hold (follows kept frame.from) (is_new kept frame.handle) passed in
            let one = is_kept (subst (IsOneOf other) (with_test true passed) also) in (
              one_of_all (λ (k : Frame). k.end ≤ frame.from) kept other (all_end kept frame.from tests.0) one,
              one_of_all (λ (k : Frame). k.handle ≢ frame.handle) kept other (all_other kept frame.handle tests.1) one,
            )
        of_test false failed = absurd (of_parts (of_joined frame kept later.more (subst (IsOneOf frame) (with_test false failed) is)))
          where
            of_parts : IsOneOf frame kept ⊎ IsOneOf frame later.more → ⊥
            of_parts (inl one) = not_before (among_before frame one)
            of_parts (inr more) = not_after (later.among frame more)

    following_kept : ((other : Frame) → IsOneOf other before → IsOneOf other all → (other.end ≤ frame.from) × (other.handle ≢ frame.handle)) → IsOneOf frame all
    following_kept others =
        let passed : (follows kept frame.from && is_new kept frame.handle) ≡ true = both (ends_follow kept frame.from (all_follow kept (λ other is. (of_kept other is).0))) (none_has kept (λ other is. (of_kept other is).1)) in
        subst (IsOneOf frame) (sym (with_test true passed)) (in_first frame (kept ++ frame ∷ []) later.more (in_second frame kept (frame ∷ []) (inl refl)))
      where
        in_all : (other : Frame) → IsOneOf other kept → IsOneOf other all
        in_all other one = subst (IsOneOf other) (sym whole) (in_first other (keep_mapped kept frame) later.more (of_test (follows kept frame.from && is_new kept frame.handle)))
          where
            of_test : (test : Bool) → IsOneOf other (if test then kept ++ frame ∷ [] else kept)
            of_test true = in_first other kept (frame ∷ []) one
            of_test false = one

        of_kept : (other : Frame) → IsOneOf other kept → (other.end ≤ frame.from) × (other.handle ≢ frame.handle)
        of_kept other one = others other (among_before other one) (in_all other one)

        both : follows kept frame.from ≡ true → list_any (λ (other : Frame). other.handle == frame.handle) kept ≡ false → (follows kept frame.from && is_new kept frame.handle) ≡ true
        both after new = ap (λ test. test && is_new kept frame.handle) after ∙ ap not new

        all_follow : (frames : List Frame) → ((other : Frame) → IsOneOf other frames → other.end ≤ frame.from) → AllByRecursion (λ (other : Frame). other.end ≤ frame.from) frames
        all_follow [] each = tt
        all_follow (first ∷ frames) each = (each first (inl refl), all_follow frames (λ other is. each other (inr is)))

        differs : (other : Frame) → other.handle ≢ frame.handle → (other.handle == frame.handle) ≡ false
        differs other differ = grind (arith, nat_tests, differ)

        none_has : (frames : List Frame) → ((other : Frame) → IsOneOf other frames → other.handle ≢ frame.handle) → list_any (λ (other : Frame). other.handle == frame.handle) frames ≡ false
        none_has [] each = refl
        none_has (first ∷ frames) each =
            ap (λ test. test || list_any (λ (other : Frame). other.handle == frame.handle) frames) (differs first (each first (inl refl))) ∙ none_has frames (λ other is. each other (inr is))

-- a pair of some, the first of which has a number, has the frame as its candidate
IsOfPair : List ℕ → ℕ → List Pair → Frame → Type 0
IsOfPair bytes first pairs frame = (index : ℕ) × (pair : Pair) × IsAt index pair pairs × (candidate bytes (first + index) pair ≡ Some frame)

-- so they are, whatever the number of the first
candidates_of_pairs : (bytes : List ℕ) (first : ℕ) (pairs : List Pair) (frame : Frame) → IsOneOf frame (candidates bytes first pairs) ↔ IsOfPair bytes first pairs frame
unfolding candidates IsOfPair
candidates_of_pairs bytes first [] frame = ((λ is. absurd is), λ is. absurd (none_at is.0 is.1 is.2))
candidates_of_pairs bytes first (pair ∷ pairs) frame = of_found (candidate bytes first pair) refl (candidates_of_pairs bytes (first + 1) pairs frame)
  where
    later : IsOfPair bytes (first + 1) pairs frame → IsOfPair bytes first (pair ∷ pairs) frame
    later (index, one, at, is) =
        let count : first + (index + 1) ≡ first + 1 + index = omega arith in (index + 1, one, at_next index one pair pairs at, ap (λ n. candidate bytes n one) count ∙ is)

    after : (index next : ℕ) (one : Pair) → index ≡ next + 1 → IsAt next one pairs → candidate bytes (first + index) one ≡ Some frame → IsOfPair bytes (first + 1) pairs frame
    after index next one same at is =
        let count : first + 1 + next ≡ first + index = omega (arith, same) in (next, one, at, ap (λ n. candidate bytes n one) count ∙ is)

    here : (index : ℕ) (one : Pair) → index ≡ 0 → one ≡ pair → candidate bytes (first + index) one ≡ Some frame → candidate bytes first pair ≡ Some frame
    here index one zero_index same is =
        let count : first ≡ first + index = omega (arith, zero_index) in ap (λ n. candidate bytes n pair) count ∙ ap (candidate bytes (first + index)) (sym same) ∙ is

    of_found : (found : Option Frame) → candidate bytes first pair ≡ found → IsOneOf frame (candidates bytes (first + 1) pairs) ↔ IsOfPair bytes (first + 1) pairs frame
        → IsOneOf frame (cons_option found (candidates bytes (first + 1) pairs)) ↔ IsOfPair bytes first (pair ∷ pairs) frame
    of_found None known others = ((λ is. later (others.0 is)), λ is. of_place is.0 is.1 is.3 (at_cases is.0 is.1 pair pairs is.2))
      where
        never : None ≡ Some frame → ⊥
        never same = cc

        of_place : (index : ℕ) (one : Pair) → candidate bytes (first + index) one ≡ Some frame → ((index ≡ 0) × (one ≡ pair)) ⊎ ((next : ℕ) × (index ≡ next + 1) × IsAt next one pairs)
            → IsOneOf frame (candidates bytes (first + 1) pairs)
        of_place index one is (inl (zero_index, same)) = absurd (never (sym known ∙ here index one zero_index same is))
        of_place index one is (inr (next, same, at)) = others.1 (after index next one same at is)
    of_found (Some other) known others = (to, λ is. of_place is.0 is.1 is.3 (at_cases is.0 is.1 pair pairs is.2))
      where
        to : IsOneOf frame (other ∷ candidates bytes (first + 1) pairs) → IsOfPair bytes first (pair ∷ pairs) frame
        to (inl same) =
            let count : first + 0 ≡ first = omega arith in (0, pair, at_first pair pairs, ap (λ n. candidate bytes n pair) count ∙ known ∙ ap Some (sym same))
        to (inr later_one) = later (others.0 later_one)

        of_place : (index : ℕ) (one : Pair) → candidate bytes (first + index) one ≡ Some frame → ((index ≡ 0) × (one ≡ pair)) ⊎ ((next : ℕ) × (index ≡ next + 1) × IsAt next one pairs)
            → IsOneOf frame (other ∷ candidates bytes (first + 1) pairs)
        of_place index one is (inl (zero_index, same)) = inl (sym (same_Some _ _ (sym known ∙ here index one zero_index same is)))
        of_place index one is (inr (next, same, at)) = inr (others.1 (after index next one same at is))

pub candidates_are_of_pairs : CandidatesAreOfPairs
unfolding IsOfPair
candidates_are_of_pairs bytes pairs frame = ((λ is. to ((candidates_of_pairs bytes 0 pairs frame).0 is)), λ is. (candidates_of_pairs bytes 0 pairs frame).1 (from is))
  where
    from_zero : (n : ℕ) → 0 + n ≡ n
    from_zero n = omega arith

    to : IsOfPair bytes 0 pairs frame → (number : ℕ) × (pair : Pair) × IsAt number pair pairs × (candidate bytes number pair ≡ Some frame)
    to (index, pair, at, is) = (index, pair, at, sym (ap (λ n. candidate bytes n pair) (from_zero index)) ∙ is)

    from : (number : ℕ) × (pair : Pair) × IsAt number pair pairs × (candidate bytes number pair ≡ Some frame) → IsOfPair bytes 0 pairs frame
    from (number, pair, at, is) = (number, pair, at, ap (λ n. candidate bytes n pair) (from_zero number) ∙ is)

-- a frame was found for a pair from a number on
pub record IsNumbered (low : ℕ) (frame : Frame) : Type 0 where
  pub number : ℕ
  pub from : low ≤ number
  pub is : frame.pair ≡ Some number

-- a candidate is that of its pair
candidate_numbered : (bytes : List ℕ) (number : ℕ) (pair : Pair) (frame : Frame) → candidate bytes number pair ≡ Some frame → frame.pair ≡ Some number
candidate_numbered bytes number pair frame is = ap (λ (frame : Frame). frame.pair) (candidate_is bytes number pair frame is)

-- those after have greater numbers
candidates_numbered : (bytes : List ℕ) (number : ℕ) (pairs : List Pair) (frame : Frame) → IsOneOf frame (candidates bytes number pairs) → IsNumbered number frame
unfolding IsOfPair
candidates_numbered bytes number pairs frame is =
    let (index, pair, at, same) = (candidates_of_pairs bytes number pairs frame).0 is in
    record { number = number + index; from = omega arith; is = candidate_numbered bytes (number + index) pair frame same }

-- so no two candidates are of one pair
candidates_distinct : (bytes : List ℕ) (number : ℕ) (pairs : List Pair) → AreDistinct (candidates bytes number pairs)
unfolding candidates
candidates_distinct bytes number [] = tt
candidates_distinct bytes number (pair ∷ pairs) = of_found (candidate bytes number pair) refl (candidates_distinct bytes (number + 1) pairs)
  where
    of_found : (found : Option Frame) → candidate bytes number pair ≡ found → AreDistinct (candidates bytes (number + 1) pairs)
        → AreDistinct (cons_option found (candidates bytes (number + 1) pairs))
    of_found None none others = others
    of_found (Some one) found others = (differ, others)
      where
        differ : (other : Frame) → IsOneOf other (candidates bytes (number + 1) pairs) → other.pair ≢ one.pair
        differ other is same =
            let numbered = candidates_numbered bytes (number + 1) pairs other is in
            let both : numbered.number ≡ number = same_Some _ _ (sym numbered.is ∙ same ∙ candidate_numbered bytes number pair one found) in
            absurd (omega (arith, numbered.from, both))

-- those that stay are distinct
filtered_distinct : (test : Frame → Bool) (frames : List Frame) → AreDistinct frames → AreDistinct (filter test frames)
filtered_distinct test [] distinct = tt
filtered_distinct test (first ∷ frames) distinct = of_test (test first) (filtered_distinct test frames distinct.1)
  where
    of_test : (passes : Bool) → AreDistinct (filter test frames) → AreDistinct (cond passes (first ∷ filter test frames) (filter test frames))
    of_test true others = ((λ other is. distinct.0 other (filtered_one test frames other is).0), others)
    of_test false others = others

-- distinct frames at two places are of two pairs
places_differ : (frames : List Frame) (one other : Frame) → AreDistinct frames → IsOneOf one frames → IsOneOf other frames → one.from ≢ other.from → other.pair ≢ one.pair
places_differ [] one other distinct is was apart = absurd is
places_differ (first ∷ frames) one other distinct (inl same) (inl also) apart = absurd (apart (ap (λ (f : Frame). f.from) (same ∙ sym also)))
places_differ (first ∷ frames) one other distinct (inl same) (inr after) apart = subst (λ (f : Frame). other.pair ≢ f.pair) (sym same) (distinct.0 other after)
places_differ (first ∷ frames) one other distinct (inr after) (inl same) apart = λ both. distinct.0 one after (sym both ∙ ap (λ (f : Frame). f.pair) same)
places_differ (first ∷ frames) one other distinct (inr after) (inr also) apart = places_differ frames one other distinct.1 after also apart

-- two lists whose members differ are distinct together
joined_distinct : (ones others : List Frame) → AreDistinct ones → AreDistinct others → ((one other : Frame) → IsOneOf one ones → IsOneOf other others → other.pair ≢ one.pair) → AreDistinct (ones ++ others)
joined_distinct [] others distinct more differ = more
joined_distinct (first ∷ ones) others distinct more differ =
    ((λ other is. of_parts other (of_joined other ones others is)), joined_distinct ones others distinct.1 more (λ one other is was. differ one other (inr is) was))
  where
    of_parts : (other : Frame) → IsOneOf other ones ⊎ IsOneOf other others → other.pair ≢ first.pair
    of_parts other (inl one) = distinct.0 other one
    of_parts other (inr was) = differ first other (inl refl) was

-- a frame in order of place is one of all, at one of the places
pub ordered_one : (frames : List Frame) (low count : ℕ) (frame : Frame) → IsOneOf frame (at_places frames low count)
    → IsOneOf frame frames × (low ≤ frame.from)
ordered_one frames low zero frame is = absurd is
ordered_one frames low (suc count) frame is =
    of_parts (of_joined frame (at_place frames low) (at_places frames (low + 1) count) is)
    (ordered_one frames (low + 1) count frame)
  where
    here : (from : ℕ) → (from == low) ≡ true → low ≤ from
    here from passed = grind (arith, nat_tests, passed)

    of_parts : IsOneOf frame (at_place frames low) ⊎ IsOneOf frame (at_places frames (low + 1) count)
        → (IsOneOf frame (at_places frames (low + 1) count) → IsOneOf frame frames × (low + 1 ≤ frame.from))
        → IsOneOf frame frames × (low ≤ frame.from)
    of_parts (inl one) others = let both = filtered_one (λ (frame : Frame). frame.from == low) frames frame one in (both.0, here frame.from both.1)
    of_parts (inr after) others = let both = others after in (both.0, omega (arith, both.1))

-- so they are distinct in order of place
ordered_distinct : (frames : List Frame) (low count : ℕ) → AreDistinct frames → AreDistinct (at_places frames low count)
ordered_distinct frames low zero distinct = tt
ordered_distinct frames low (suc count) distinct =
    joined_distinct (at_place frames low) (at_places frames (low + 1) count)
    (filtered_distinct (λ (frame : Frame). frame.from == low) frames distinct) (ordered_distinct frames (low + 1) count distinct)
    (λ one other is was.
    let first = filtered_one (λ (frame : Frame). frame.from == low) frames one is in
    let second = ordered_one frames (low + 1) count other was in
    places_differ frames one other distinct first.0 second.0 (λ same. apart one.from other.from first.1 second.1 same))
  where
    apart : (from to : ℕ) → (from == low) ≡ true → low + 1 ≤ to → from ≡ to → ⊥
    apart from to passed later same = grind (arith, nat_tests, passed, later, same)

-- in order of place candidates are members as they were
pub ordered_is_one : (most : ℕ) (frames : List Frame) (frame : Frame) → IsOneOf frame (in_order_of_place most frames) → IsOneOf frame frames
unfolding in_order_of_place
ordered_is_one most frames frame is = (ordered_one frames 0 most frame is).0

-- and no two of them are of one pair: those before one are of others
pub before_differ : (bytes : List ℕ) (pairs : List Pair) (before : List Frame) (frame : Frame) (after : List Frame) (other : Frame)
    → in_order_of_place (length bytes) (candidates bytes 0 pairs) ≡ before ++ frame ∷ after → IsOneOf other before → frame.pair ≢ other.pair
unfolding in_order_of_place
before_differ bytes pairs before frame after other is earlier =
    parts_differ before (frame ∷ after) other frame (subst AreDistinct is (ordered_distinct (candidates bytes 0 pairs) 0 (length bytes) (candidates_distinct bytes 0 pairs))) earlier (inl refl)

-- so a frame is kept for a pair exactly where it lies after those that are kept before it, and has a new handle
pub map_keeps_exactly : MapKeepsExactly
unfolding mapped_frames in_order_of_place
map_keeps_exactly bytes pairs before frame after is =
    subst
    (λ (all : List Frame). IsOneOf frame (mapped_of all) ↔ ((other : Frame) → IsOneOf other before → IsOneOf other (mapped_of all) → (other.end ≤ frame.from) × (other.handle ≢ frame.handle))) (sym is)
    (exact_of before frame after (subst AreDistinct is (ordered_distinct (candidates bytes 0 pairs) 0 (length bytes) (candidates_distinct bytes 0 pairs))))

-- and keeps none but candidates
pub mapped_are_candidates : (bytes : List ℕ) (pairs : List Pair) (frame : Frame) → IsOneOf frame (mapped_frames bytes pairs) → IsOneOf frame (in_order_of_place (length bytes) (candidates bytes 0 pairs))
unfolding mapped_frames
mapped_are_candidates bytes pairs frame is =
    let grown = grows_by [] (in_order_of_place (length bytes) (candidates bytes 0 pairs)) in
    grown.among frame (subst (IsOneOf frame) grown.whole is)

-- so each frame that is kept for a pair has the pair's number
pub mapped_are_numbered : (bytes : List ℕ) (pairs : List Pair) (frame : Frame) → IsOneOf frame (mapped_frames bytes pairs) → IsNumbered 0 frame
mapped_are_numbered bytes pairs frame is =
    candidates_numbered bytes 0 pairs frame (ordered_is_one (length bytes) (candidates bytes 0 pairs) frame (mapped_are_candidates bytes pairs frame is))
