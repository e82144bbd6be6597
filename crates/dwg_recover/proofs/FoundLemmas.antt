-- Frames of the map are found in the input and lie in it, and so do those that are put in order and kept of them.
use Rattle.std.proofs.Common.{◌≡◌, refl, ◌∙◌, ap, subst, ℕ, ◌+◌, ◌-◌, ◌<◌, ◌≤◌, Bool, true, false, List, [], ◌∷◌, ◌++◌, length, drop, Option, Some, None, arith, ◌==◌, cond}
use Rattle.std.specs.Prelude.{◌&&◌, Ok, Err, flat_map, fold, nat_lt, not, if◌then◌else◌}
use Rattle.std.specs.List.{AllByRecursion, cons_option, filter, range_with_len}
use Rattle.std.specs.Option.{option_and_then}
use Rattle.std.specs.Result.{result_ok}
use Rattle.std.proofs.lemmas.Bool.Decides.{nat_tests}
use Rattle.std.proofs.lemmas.Option.{same_Some}
use Rattle.dwg_grammar.specs.ModularCodes.{ms}
use Rattle.dwg_object.specs.declared.span.Span.{Span}
use Rattle.dwg_object.specs.FrameLines.{frame_refusal, span_of, span_parsed, tried_span}
use Rattle.dwg_objmap.specs.declared.pair.Pair.{Pair}
use Rattle.dwg_recover.specs.declared.frame.Frame.{Frame}
use Rattle.dwg_recover.specs.Frames.{candidate, candidate_of, candidates, follows, in_order_of_place, is_new, keep_mapped, mapped_frames, own_of_span, span_found}
use Rattle.dwg_recover.specs.Placing.{IsFound, IsPlaced}

-- a span stands at a place, has bytes, and they end no later than those of the input
pub record IsInside (bytes : List ℕ) (place : ℕ) (span : Span) : Type 0 where
  pub at : span.from ≡ place
  pub some : place < span.end
  pub within : span.end ≤ length bytes

-- so does one whose length was parsed
parsed_inside : (bytes : List ℕ) (place left : ℕ) (found : Option (ℕ × List ℕ)) (span : Span) → result_ok (span_parsed place 0 (length bytes) left found) ≡ Some span → IsInside bytes place span
parsed_inside bytes place left None span is = absurd (cc)
parsed_inside bytes place left (Some (long, rest)) span is = by_test (nat_lt (length bytes) (place + (left - length rest) + long + 2)) refl is
  where
    by_test : (past : Bool) → nat_lt (length bytes) (place + (left - length rest) + long + 2) ≡ past
        → result_ok (if past then Err (frame_refusal 28 0 place) else Ok (span_of place (left - length rest) long)) ≡ Some span → IsInside bytes place span
    by_test true known same = absurd (cc)
    by_test false known same =
        subst (IsInside bytes place) (same_Some (span_of place (left - length rest) long) span same)
        (record { at = refl; some = omega arith; within = grind (arith, nat_tests, known) })

-- a span that is found at a place stands in the input
pub span_inside : (bytes : List ℕ) (place : ℕ) (span : Span) → span_found bytes place ≡ Some span → IsInside bytes place span
unfolding span_found tried_span
span_inside bytes place span is = by_test (nat_lt place (length bytes)) is
  where
    by_test : (within : Bool)
        → result_ok (if not within then Err (frame_refusal 27 0 place) else span_parsed place 0 (length bytes) (length (drop place bytes)) (ms.parse (drop place bytes))) ≡ Some span
        → IsInside bytes place span
    by_test true same = parsed_inside bytes place (length (drop place bytes)) (ms.parse (drop place bytes)) span same
    by_test false same = absurd (cc)

-- a frame that is found lies in the input
pub found_placed : (bytes : List ℕ) (frame : Frame) → IsFound bytes frame → IsPlaced (length bytes) frame
found_placed bytes frame found =
    let inside = span_inside bytes frame.from found.span found.stands in
    record { some = omega (arith, inside.some, found.ends); within = omega (arith, inside.within, found.ends) }

-- the frame of a pair is found
pub candidate_found : (bytes : List ℕ) (number : ℕ) (pair : Pair) (frame : Frame) → candidate bytes number pair ≡ Some frame → IsFound bytes frame
candidate_found bytes number pair frame is = by_span (span_found bytes pair.place) refl is
  where
    by_test : (span : Span) (own : ℕ) (test : Bool) → span_found bytes pair.place ≡ Some span → own_of_span bytes span ≡ Some own → (nat_lt 0 pair.handle && (own == pair.handle)) ≡ test
        → (if test then Some (record { pair = Some number; handle = pair.handle; from = pair.place; end = span.end }) else None) ≡ Some frame → IsFound bytes frame
    by_test span own true stands has known same =
        let handle : own ≡ pair.handle = grind (arith, nat_tests, known) in
        subst (IsFound bytes) (same_Some (record { pair = Some number; handle = pair.handle; from = pair.place; end = span.end }) frame same)
        (record { span = span; stands = stands; own = has ∙ ap Some handle; ends = refl })
    by_test span own false stands has known same = absurd (cc)

    by_own : (span : Span) (own : Option ℕ) → span_found bytes pair.place ≡ Some span → own_of_span bytes span ≡ own → option_and_then (candidate_of number pair span) own ≡ Some frame → IsFound bytes frame
    by_own span None stands has same = absurd (cc)
    by_own span (Some own) stands has same = by_test span own (nat_lt 0 pair.handle && (own == pair.handle)) stands has refl same

    by_span : (found : Option Span) → span_found bytes pair.place ≡ found → option_and_then (λ (span : Span). option_and_then (candidate_of number pair span) (own_of_span bytes span)) found ≡ Some frame
        → IsFound bytes frame
    by_span None stands same = absurd (cc)
    by_span (Some span) stands same = by_own span (own_of_span bytes span) stands refl same

-- so are those of all pairs
pub candidates_found : (bytes : List ℕ) (number : ℕ) (pairs : List Pair) → AllByRecursion (IsFound bytes) (candidates bytes number pairs)
unfolding candidates
candidates_found bytes number [] = tt
candidates_found bytes number (pair ∷ pairs) = by_frame (candidate bytes number pair) refl (candidates_found bytes (number + 1) pairs)
  where
    by_frame : (frame : Option Frame) → candidate bytes number pair ≡ frame → AllByRecursion (IsFound bytes) (candidates bytes (number + 1) pairs)
        → AllByRecursion (IsFound bytes) (cons_option frame (candidates bytes (number + 1) pairs))
    by_frame None is others = others
    by_frame (Some frame) is others = (candidate_found bytes number pair frame is, others)

-- what holds of all holds of those that pass a test, of those of two lists, and of what it gives
pub all_filtered : {X : Type 0} (P : X → Type 0) (test : X → Bool) (xs : List X) → AllByRecursion P xs → AllByRecursion P (filter test xs)
all_filtered P test [] all = tt
all_filtered {X} P test (x ∷ xs) all = by_test (test x) (all_filtered P test xs all.1)
  where
    by_test : (passes : Bool) → AllByRecursion P (filter test xs) → AllByRecursion P (cond passes (x ∷ filter test xs) (filter test xs))
    by_test true others = (all.0, others)
    by_test false others = others

pub all_appended : {X : Type 0} (P : X → Type 0) (xs ys : List X) → AllByRecursion P xs → AllByRecursion P ys → AllByRecursion P (xs ++ ys)
all_appended P [] ys all others = others
all_appended P (x ∷ xs) ys all others = (all.0, all_appended P xs ys all.1 others)

pub all_weaker : {X : Type 0} (P Q : X → Type 0) (xs : List X) → ((x : X) → P x → Q x) → AllByRecursion P xs → AllByRecursion Q xs
all_weaker P Q [] gives all = tt
all_weaker P Q (x ∷ xs) gives all = (gives x all.0, all_weaker P Q xs gives all.1)

-- what holds of all frames holds of them in order of place
all_at_places : (P : Frame → Type 0) (frames : List Frame) (places : List ℕ) → AllByRecursion P frames → AllByRecursion P (flat_map (λ place. filter (λ (frame : Frame). frame.from == place) frames) places)
all_at_places P frames [] all = tt
all_at_places P frames (place ∷ places) all =
    all_appended P (filter (λ (frame : Frame). frame.from == place) frames) _ (all_filtered P (λ (frame : Frame). frame.from == place) frames all) (all_at_places P frames places all)

pub all_in_order : (P : Frame → Type 0) (most : ℕ) (frames : List Frame) → AllByRecursion P frames → AllByRecursion P (in_order_of_place most frames)
unfolding in_order_of_place
all_in_order P most frames all = all_at_places P frames (range_with_len 0 most) all

-- what holds of the frames kept and of those in order holds of all that are kept
pub all_kept : (P : Frame → Type 0) (kept ordered : List Frame) → AllByRecursion P kept → AllByRecursion P ordered → AllByRecursion P (fold keep_mapped kept ordered)
all_kept P kept [] all others = all
all_kept P kept (frame ∷ ordered) all others =
    all_kept P (keep_mapped kept frame) ordered (by_test (follows kept frame.from && is_new kept frame.handle)) others.1
  where
    by_test : (test : Bool) → AllByRecursion P (if test then kept ++ frame ∷ [] else kept)
    by_test true = all_appended P kept (frame ∷ []) all (others.0, tt)
    by_test false = all

-- the frames that are kept for the pairs of the map are found
pub mapped_found : (bytes : List ℕ) (pairs : List Pair) → AllByRecursion (IsFound bytes) (mapped_frames bytes pairs)
unfolding mapped_frames
mapped_found bytes pairs =
    all_kept (IsFound bytes) [] (in_order_of_place (length bytes) (candidates bytes 0 pairs)) tt
    (all_in_order (IsFound bytes) (length bytes) (candidates bytes 0 pairs) (candidates_found bytes 0 pairs))

-- frames that are found lie in the input
pub all_placed : (bytes : List ℕ) (frames : List Frame) → AllByRecursion (IsFound bytes) frames → AllByRecursion (IsPlaced (length bytes)) frames
all_placed bytes frames = all_weaker (IsFound bytes) (IsPlaced (length bytes)) frames (found_placed bytes)

-- and have bytes
pub all_some : (most : ℕ) (frames : List Frame) → AllByRecursion (IsPlaced most) frames → AllByRecursion (λ (frame : Frame). frame.from < frame.end) frames
all_some most frames = all_weaker (IsPlaced most) (λ (frame : Frame). frame.from < frame.end) frames (λ frame placed. placed.some)
