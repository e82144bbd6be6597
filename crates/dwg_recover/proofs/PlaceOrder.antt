-- A list sorted by place, equals in their order, is that of the frames at each place.
use Rattle.std.proofs.Common.{◌≡◌, refl, sym, ◌∙◌, ap, ap₂, ℕ, zero, suc, ◌+◌, ◌<◌, ◌≤◌, Bool, true, false, List, [], ◌∷◌, ◌++◌, length, get_or, None, arith, ◌==◌, cond}
use Rattle.std.specs.Prelude.{flat_map}
use Rattle.std.specs.List.{AllByRecursion, filter, range_with_len}
use Rattle.std.specs.List.Sorted.{IsNonDecreasingBy, IsPermutation, IsStableByKey, ties}
use Rattle.std.specs.Ordering.{is_lt, nat_cmp}
use Rattle.std.proofs.ByRecursion.{all_shuffled}
use Rattle.std.proofs.lemmas.Bool.Decides.{nat_tests}
use Rattle.dwg_recover.specs.declared.frame.Frame.{Frame}
use Rattle.dwg_recover.specs.Frames.{in_order_of_place}
use Rattle.dwg_recover.proofs.FoundLemmas.{all_weaker}
use Rattle.dwg_recover.specs.OrderOfPlace.{AreUp, at_place}
use Rattle.dwg_recover.specs.Placing.{IsPlaced}

-- the frames at places one after the other
abbrev at_places : List Frame → ℕ → ℕ → List Frame
at_places frames low count = flat_map (at_place frames) (range_with_len low count)

-- of none there are none
none_at_places : (low count : ℕ) → [] ≡ at_places [] low count
none_at_places low zero = refl
none_at_places low (suc count) = none_at_places (low + 1) count

-- of frames after a place none begins there
none_at : (place from : ℕ) (frames : List Frame) → place < from → AllByRecursion (λ (after : Frame). from ≤ after.from) frames → at_place frames place ≡ []
none_at place from [] before all = refl
none_at place from (frame ∷ frames) before all =
    let out : frame.from == place ≡ false = grind (arith, nat_tests, all.0) in
    ap (λ test. cond test (frame ∷ at_place frames place) (at_place frames place)) out ∙ none_at place from frames before all.1

-- a frame before all places is at none of them
frame_before : (frame : Frame) (frames : List Frame) (low count : ℕ) → frame.from < low → at_places (frame ∷ frames) low count ≡ at_places frames low count
frame_before frame frames low zero before = refl
frame_before frame frames low (suc count) before =
    let out : frame.from == low ≡ false = grind (arith, nat_tests) in
    ap₂ (λ (test : Bool) (rest : List Frame). cond test (frame ∷ at_place frames low) (at_place frames low) ++ rest) out (frame_before frame frames (low + 1) count (omega arith))

-- a frame that begins no later than the others is the first of all
frame_first : (frame : Frame) (frames : List Frame) (low count : ℕ) → low ≤ frame.from → frame.from < low + count → AllByRecursion (λ (after : Frame). frame.from ≤ after.from) frames
    → frame ∷ at_places frames low count ≡ at_places (frame ∷ frames) low count
frame_first frame frames low zero from before up = absurd (omega arith)
frame_first frame frames low (suc count) from before up =
    by_test (frame.from == low) refl (λ after. frame_first frame frames (low + 1) count (omega (arith, after)) (omega arith) up)
  where
    by_test : (here : Bool) → frame.from == low ≡ here → (low < frame.from → frame ∷ at_places frames (low + 1) count ≡ at_places (frame ∷ frames) (low + 1) count)
        → frame ∷ (at_place frames low ++ at_places frames (low + 1) count) ≡ cond here (frame ∷ at_place frames low) (at_place frames low) ++ at_places (frame ∷ frames) (low + 1) count
    by_test true known others =
        let same : frame.from < low + 1 = grind (arith, nat_tests, known) in
        ap (λ (rest : List Frame). frame ∷ (at_place frames low ++ rest)) (sym (frame_before frame frames (low + 1) count same))
    by_test false known others =
        let after : low < frame.from = grind (arith, nat_tests, known) in
        let none : at_place frames low ≡ [] = none_at low frame.from frames after up in
        ap (λ (here : List Frame). frame ∷ (here ++ at_places frames (low + 1) count)) none
        ∙ others after
        ∙ ap (λ (here : List Frame). here ++ at_places (frame ∷ frames) (low + 1) count) (sym none)

-- frames in order of place are those at each place
up_by_place : (most : ℕ) (frames : List Frame) → AreUp frames → AllByRecursion (λ (frame : Frame). frame.from < most) frames → frames ≡ at_places frames 0 most
up_by_place most [] up all = none_at_places 0 most
up_by_place most (frame ∷ frames) up all =
    ap (λ (rest : List Frame). frame ∷ rest) (up_by_place most frames up.1 all.1) ∙ frame_first frame frames 0 most (omega arith) (omega (arith, all.0)) up.0

-- frames whose places don't fall are in order
up_of : (frames : List Frame) → IsNonDecreasingBy (λ (frame : Frame). frame.from) frames → AreUp frames
up_of [] rises = tt
up_of (frame ∷ frames) rises =
    (after frames (λ k within. rises 0 (suc k) frame (omega arith) (omega (arith, within))), up_of frames (λ i j d before within. rises (suc i) (suc j) d (omega (arith, before)) (omega (arith, within))))
  where
    after : (others : List Frame) → ((k : ℕ) → k < length others → frame.from ≤ (get_or others k frame).from) → AllByRecursion (λ (other : Frame). frame.from ≤ other.from) others
    after [] each = tt
    after (other ∷ others) each = (each 0 (omega arith), after others (λ k within. each (suc k) (omega (arith, within))))

-- a frame ties with those at its place
tie_place : (place : ℕ) (frame : Frame)
    → ties (λ (one other : Frame). is_lt (nat_cmp one.from other.from)) (record { pair = None; handle = 0; from = place; end = 0 }) frame ≡ (frame.from == place)
tie_place place frame = grind (arith, nat_tests)

-- where ties keep their order, the frames at a place are those that were there
same_at : (frames ordered : List Frame) → IsStableByKey (λ (frame : Frame). frame.from) nat_cmp frames ordered → (place : ℕ) → at_place ordered place ≡ at_place frames place
same_at frames ordered stable place =
    sym (λ i. filter (λ (frame : Frame). tie_place place frame i) ordered) ∙ stable (record { pair = None; handle = 0; from = place; end = 0 })
    ∙ (λ i. filter (λ (frame : Frame). tie_place place frame i) frames)

-- frames that are sorted by place, ties in their order, are in order of place
pub sorted_in_place_order : (most : ℕ) (frames ordered : List Frame) → IsPermutation frames ordered → IsNonDecreasingBy (λ (frame : Frame). frame.from) ordered
    → IsStableByKey (λ (frame : Frame). frame.from) nat_cmp frames ordered → AllByRecursion (IsPlaced most) frames → ordered ≡ in_order_of_place most frames
unfolding in_order_of_place
sorted_in_place_order most frames ordered same rises stable placed =
    up_by_place most ordered (up_of ordered rises)
    (all_shuffled (λ (frame : Frame). frame.from < most) frames ordered same
    (all_weaker (IsPlaced most) (λ (frame : Frame). frame.from < most) frames (λ frame is. omega (arith, is.some, is.within)) placed))
    ∙ (λ i. flat_map (λ place. same_at frames ordered stable place i) (range_with_len 0 most))
