-- The frames of pairs, one by one, and what is kept of them.
use Rattle.std.proofs.Common.{◌≡◌, ◌≢◌, refl, sym, ◌∙◌, ap, subst, ℕ, ◌+◌, ◌<◌, ◌≤◌, Bool, true, false, List, [], ◌∷◌, ◌++◌, length, drop, get_or, Option, Some, None, arith, ◌==◌}
use Rattle.std.specs.Prelude.{◌&&◌, ◌||◌, nat_le, nat_lt, not, Ok, Err, if◌then◌else◌}
use Rattle.std.specs.List.{AllByRecursion, cons_option, list_any}
use Rattle.std.specs.Option.{option_and_then}
use Rattle.std.specs.Result.{result_ok}
use Rattle.std.proofs.lemmas.Bool.Decides.{nat_tests}
use Rattle.std.proofs.lemmas.List.{drop_all}
use Rattle.dwg_base.specs.Refusals.{Tried}
use Rattle.dwg_base.specs.Refusal.{Refusal}
use Rattle.dwg_object.specs.declared.span.Span.{Span}
use Rattle.dwg_object.specs.FrameLines.{tried_span}
use Rattle.dwg_objmap.specs.declared.pair.Pair.{Pair}
use Rattle.dwg_recover.specs.declared.frame.Frame.{Frame}
use Rattle.dwg_recover.specs.Frames.{candidate, candidate_of, candidates, follows, in_order_of_place, is_free, mapped_frames, mapped_of, overlaps, own_of_span, span_found}
use Rattle.dwg_recover.proofs.FoundLemmas.{all_in_order, all_placed, all_some, candidates_found}
use Rattle.dwg_recover.specs.Placing.{IsFound, IsPlaced}
use Rattle.dwg_recover.proofs.LossesAlong.{left_of, nothing_left, part_put}

-- the span at a place, by what is tried there
span_tried : (bytes : List ℕ) (place : ℕ) (tried : Tried Span) → tried ≡ tried_span place 0 bytes → span_found bytes place ≡ result_ok tried
unfolding span_found
span_tried bytes place tried is = ap result_ok (sym is)

-- without a span there is no frame
pub no_span : (bytes : List ℕ) (number : ℕ) (pair : Pair) (refusal : Refusal) → Err refusal ≡ tried_span pair.place 0 bytes → None ≡ candidate bytes number pair
no_span bytes number pair refusal tried =
    sym (ap (option_and_then (λ (span : Span). option_and_then (candidate_of number pair span) (own_of_span bytes span))) (span_tried bytes pair.place (Err refusal) tried))

-- the frame of a span, by its own handle
pub by_own : (bytes : List ℕ) (number : ℕ) (pair : Pair) (span : Span) (own : Option ℕ) → Ok span ≡ tried_span pair.place 0 bytes → own ≡ own_of_span bytes span
    → option_and_then (candidate_of number pair span) own ≡ candidate bytes number pair
by_own bytes number pair span own tried is =
    ap (option_and_then (candidate_of number pair span)) is
    ∙ sym (ap (option_and_then (λ (span : Span). option_and_then (candidate_of number pair span) (own_of_span bytes span))) (span_tried bytes pair.place (Ok span) tried))

-- another own handle gives none
pub other_own : (number own : ℕ) (pair : Pair) (span : Span) → own ≢ pair.handle → None ≡ candidate_of number pair span own
other_own number own pair span other =
    let out : (nat_lt 0 pair.handle && (own == pair.handle)) ≡ false = grind (arith, nat_tests, other) in
    sym (ap (λ (test : Bool). if test then Some (record { pair = Some number; handle = pair.handle; from = pair.place; end = span.end }) else None) out)

-- the pair's own, where it is positive, gives the frame
pub same_own : (number own : ℕ) (pair : Pair) (span : Span) → pair.handle ≢ 0 → own ≡ pair.handle
    → Some (record { pair = Some number; handle = pair.handle; from = pair.place; end = span.end }) ≡ candidate_of number pair span own
same_own number own pair span positive same =
    let here : (nat_lt 0 pair.handle && (own == pair.handle)) ≡ true = grind (arith, nat_tests, positive, same) in
    sym (ap (λ (test : Bool). if test then Some (record { pair = Some number; handle = pair.handle; from = pair.place; end = span.end }) else None) here)

-- a frame or none, before others
option_first : (frame : Option Frame) (rest : List Frame) → cons_option frame rest ≡ cons_option frame [] ++ rest
option_first None rest = refl
option_first (Some frame) rest = refl

-- with the frame of the next pair, what is left gives the whole
pub candidates_on : (bytes : List ℕ) (index : ℕ) (pairs : List Pair) (pair none : Pair) (frame : Option Frame) (put more whole : List Frame) → index < length pairs → pair ≡ get_or pairs index none
    → frame ≡ candidate bytes index pair → more ≡ put ++ cons_option frame [] → put ++ candidates bytes index (drop index pairs) ≡ whole
    → more ++ candidates bytes (index + 1) (drop (index + 1) pairs) ≡ whole
unfolding candidates
candidates_on bytes index pairs pair none frame put more whole within is found added =
    let rest : List Frame = candidates bytes (index + 1) (drop (index + 1) pairs) in
    part_put put more (cons_option frame []) rest _ whole added
    (ap (candidates bytes index) (left_of pairs index pair none within is) ∙ ap (λ (one : Option Frame). cons_option one rest) (sym found) ∙ option_first frame rest)

-- after the last pair, those so far are all
pub candidates_over : (bytes : List ℕ) (index : ℕ) (pairs : List Pair) (put whole : List Frame) → length pairs ≤ index → put ++ candidates bytes index (drop index pairs) ≡ whole → put ≡ whole
unfolding candidates
candidates_over bytes index pairs put whole past = nothing_left put _ whole (ap (candidates bytes index) (drop_all index pairs past))

-- candidates lie in the input
candidates_placed : (bytes : List ℕ) (pairs : List Pair) (found : List Frame) → found ≡ candidates bytes 0 pairs → AllByRecursion (IsPlaced (length bytes)) found
candidates_placed bytes pairs found is =
    all_placed bytes found (subst (AllByRecursion (IsFound bytes)) (sym is) (candidates_found bytes 0 pairs))

-- candidates in order of place have bytes
pub ordered_some : (bytes : List ℕ) (pairs : List Pair) (found ordered : List Frame) → found ≡ candidates bytes 0 pairs
    → ((most : ℕ) → AllByRecursion (IsPlaced most) found → ordered ≡ in_order_of_place most found) → AllByRecursion (λ (frame : Frame). frame.from < frame.end) ordered
ordered_some bytes pairs found ordered is gives =
    let placed : AllByRecursion (IsPlaced (length bytes)) found = candidates_placed bytes pairs found is in
    subst (AllByRecursion (λ (frame : Frame). frame.from < frame.end)) (sym (gives (length bytes) placed))
    (all_some (length bytes) (in_order_of_place (length bytes) found) (all_in_order (IsPlaced (length bytes)) (length bytes) found placed))

-- what is kept of them is what is kept for the pairs
pub ordered_mapped : (bytes : List ℕ) (pairs : List Pair) (found ordered : List Frame) → found ≡ candidates bytes 0 pairs
    → ((most : ℕ) → AllByRecursion (IsPlaced most) found → ordered ≡ in_order_of_place most found) → mapped_of ordered ≡ mapped_frames bytes pairs
unfolding mapped_frames
ordered_mapped bytes pairs found ordered is gives =
    ap mapped_of (gives (length bytes) (candidates_placed bytes pairs found is) ∙ ap (in_order_of_place (length bytes)) is)

-- after the end of every frame it is free
pub follows_free : (frames : List Frame) (from end : ℕ) → follows frames from ≡ true → is_free frames from end ≡ true
follows_free [] from end after = refl
follows_free (frame ∷ frames) from end after =
    let both = parted (nat_le frame.end from) (follows frames from) after in
    let out : overlaps from end frame ≡ false = grind (arith, nat_tests, both.0) in
    ap (λ test. not (test || list_any (overlaps from end) frames)) out ∙ follows_free frames from end both.1
  where
    parted : (one other : Bool) → (one && other) ≡ true → (one ≡ true) × (other ≡ true)
    parted true other is = (refl, is)
    parted false other is = absurd (cc)
