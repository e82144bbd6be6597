-- What holds of the frames that are kept: each was found in the input, no two share a byte or have one handle, and there are few.
use Rattle.std.proofs.Common.{◌≡◌, refl, ◌∙◌, ap, subst, ℕ, zero, suc, ◌+◌, ◌≤◌, Bool, true, false, List, [], ◌∷◌, ◌++◌, length, length-append, Option, Some, None, inl, inr, arith}
use Rattle.dwg_base.specs.Versions.{version_at}
use Rattle.std.specs.Prelude.{◌≢◌, ◌⊎◌, ◌&&◌, ◌||◌, ◌==◌, not, fold, nat_le, nat_lt, AllPairs, if◌then◌else◌}
use Rattle.std.specs.List.{AllByRecursion, list_any, range_with_len}
use Rattle.std.specs.Option.{option_and_then}
use Rattle.std.proofs.lemmas.Bool.Decides.{nat_tests}
use Rattle.std.proofs.lemmas.List.FromFn.{length-range_with_len}
use Rattle.std.proofs.lemmas.List.Elements.{All-from_recursion}
use Rattle.std.proofs.lemmas.List.Kept.{AllPairs-cons}
use Rattle.std.proofs.lemmas.Option.{same_Some}
use Rattle.dwg_classes.specs.declared.class.Class.{Class}
use Rattle.dwg_object.specs.declared.span.Span.{Span}
use Rattle.dwg_object.proofs.FormLaws.{form_at}
use Rattle.dwg_object.specs.FrameLines.{span_body}
use Rattle.dwg_objmap.specs.declared.pair.Pair.{Pair}
use Rattle.dwg_recover.specs.declared.frame.Frame.{Frame}
use Rattle.dwg_recover.proofs.FoundLemmas.{all_placed, candidates_found, found_placed, all_in_order}
use Rattle.dwg_recover.specs.Frames.{overlaps, is_free, follows, is_new, own_of_span, span_found, keep_mapped, mapped_of, mapped_frames, candidates, in_order_of_place, has_common_part, scanned_of, scanned, keep_free, scanned_over, with_scanned}
use Rattle.dwg_recover.specs.Placing.{IsFound, IsPlaced}
use Rattle.dwg_recover.specs.KeptFrames.{AreKept, AreOther}

-- what holds of each of some and of one more
all_more : {X : Type 0} (Holds : X → Type 0) (xs : List X) (x : X) → AllByRecursion Holds xs → Holds x → AllByRecursion Holds (xs ++ x ∷ [])
all_more Holds [] x all one = (one, tt)
all_more Holds (first ∷ rest) x all one = (all.0, all_more Holds rest x all.1 one)

-- what holds of each two of some, and of each of them with one more
pairs_more : {X : Type 0} (Relates : X → X → Type 0) (xs : List X) (x : X) → AllPairs Relates xs → AllByRecursion (λ other. Relates other x) xs → AllPairs Relates (xs ++ x ∷ [])
pairs_more Relates [] x all others = λ i j d before within. absurd (omega arith)
pairs_more Relates (first ∷ rest) x all others =
    AllPairs-cons Relates first (rest ++ x ∷ [])
    (All-from_recursion (Relates first) (rest ++ x ∷ []) (all_more (Relates first) rest x (after_first Relates first rest all) others.0))
    (pairs_more Relates rest x (λ i j d before within. all (suc i) (suc j) d (omega arith) (omega arith)) others.1)
  where
    after_first : {X : Type 0} (Relates : X → X → Type 0) (first : X) (rest : List X) → AllPairs Relates (first ∷ rest) → AllByRecursion (Relates first) rest
    after_first Relates first [] all = tt
    after_first Relates first (next ∷ rest) all =
        (all 0 1 first (omega arith) (omega arith), after_first Relates first rest (λ i j d before within. without Relates first next rest all i j d before within))
      where
        without : {X : Type 0} (Relates : X → X → Type 0) (first next : X) (rest : List X) → AllPairs Relates (first ∷ next ∷ rest) → AllPairs Relates (first ∷ rest)
        without Relates first next rest all zero zero d before within = absurd (omega arith)
        without Relates first next rest all zero (suc j) d before within = all 0 (suc (suc j)) d (omega arith) (omega arith)
        without Relates first next rest all (suc i) zero d before within = absurd (omega arith)
        without Relates first next rest all (suc i) (suc j) d before within = all (suc (suc i)) (suc (suc j)) d (omega arith) (omega arith)

-- a property that each step keeps holds after a fold
fold_keeps : {A B : Type 0} (Holds : B → Type 0) (Fits : A → Type 0) (step : B → A → B) → ((b : B) (a : A) → Fits a → Holds b → Holds (step b a))
    → (b : B) (items : List A) → AllByRecursion Fits items → Holds b → Holds (fold step b items)
fold_keeps Holds Fits step keeps b [] fit holds = holds
fold_keeps Holds Fits step keeps b (item ∷ items) fit holds = fold_keeps Holds Fits step keeps (step b item) items fit.1 (keeps b item fit.0 holds)

-- both of two tests hold
pub both_hold : (one other : Bool) → (one && other) ≡ true → (one ≡ true) × (other ≡ true)
both_hold true other is = (refl, is)
both_hold false other is = absurd cc

-- neither of two tests holds
neither_holds : (one other : Bool) → (one || other) ≡ false → (one ≡ false) × (other ≡ false)
neither_holds true other is = absurd cc
neither_holds false other is = (refl, is)

-- a test that fails
fails : (test : Bool) → not test ≡ true → test ≡ false
fails true is = absurd cc
fails false is = refl

-- after a place that follows frames, each ends
pub all_end : (frames : List Frame) (from : ℕ) → follows frames from ≡ true → AllByRecursion (λ (frame : Frame). frame.end ≤ from) frames
all_end [] from is = tt
all_end (frame ∷ frames) from is =
    let tests = both_hold (nat_le frame.end from) (follows frames from) is in (grind (arith, nat_tests, tests.0), all_end frames from tests.1)

-- where each ends no later than a place, it follows them
pub ends_follow : (frames : List Frame) (from : ℕ) → AllByRecursion (λ (frame : Frame). frame.end ≤ from) frames → follows frames from ≡ true
ends_follow [] from all = refl
ends_follow (frame ∷ frames) from all =
    let here : nat_le frame.end from ≡ true = grind (arith, nat_tests, all.0) in ap (λ test. test && follows frames from) here ∙ ends_follow frames from all.1

-- frames that follow others share no byte with them
pub all_apart : (frames : List Frame) (from end : ℕ) → is_free frames from end ≡ true → AllByRecursion (λ (frame : Frame). (frame.end ≤ from) ⊎ (end ≤ frame.from)) frames
all_apart frames from end is = of_any frames (fails (list_any (overlaps from end) frames) is)
  where
    of_tests : (frame : Frame) (one other : Bool) → nat_lt from frame.end ≡ one → nat_lt frame.from end ≡ other → (one && other) ≡ false → (frame.end ≤ from) ⊎ (end ≤ frame.from)
    of_tests frame true true one other out = absurd cc
    of_tests frame true false one other out = inr (grind (arith, nat_tests, other))
    of_tests frame false other_test one other out = inl (grind (arith, nat_tests, one))

    of_any : (frames : List Frame) → list_any (overlaps from end) frames ≡ false → AllByRecursion (λ (frame : Frame). (frame.end ≤ from) ⊎ (end ≤ frame.from)) frames
    of_any [] none = tt
    of_any (frame ∷ frames) none =
        let tests = neither_holds (overlaps from end frame) (list_any (overlaps from end) frames) none in
        (of_tests frame (nat_lt from frame.end) (nat_lt frame.from end) refl refl tests.0, of_any frames tests.1)

-- a new handle is none of theirs
pub all_other : (frames : List Frame) (handle : ℕ) → is_new frames handle ≡ true → AllByRecursion (λ (frame : Frame). frame.handle ≢ handle) frames
all_other frames handle is = of_any frames (fails (list_any (λ (frame : Frame). frame.handle == handle) frames) is)
  where
    of_any : (frames : List Frame) → list_any (λ (frame : Frame). frame.handle == handle) frames ≡ false → AllByRecursion (λ (frame : Frame). frame.handle ≢ handle) frames
    of_any [] none = tt
    of_any (frame ∷ frames) none =
        let tests = neither_holds (frame.handle == handle) (list_any (λ (frame : Frame). frame.handle == handle) frames) none in
        ((λ same. grind (arith, nat_tests, tests.0, same)), of_any frames tests.1)

-- frames that end before another, or begin after it, and have other handles
pub others_of : (frames : List Frame) (frame : Frame) → AllByRecursion (λ (kept : Frame). (kept.end ≤ frame.from) ⊎ (frame.end ≤ kept.from)) frames
    → AllByRecursion (λ (kept : Frame). kept.handle ≢ frame.handle) frames → AllByRecursion (λ (kept : Frame). AreOther kept frame) frames
others_of [] frame apart differ = tt
others_of (kept ∷ frames) frame apart differ = (record { apart = apart.0; handles = differ.0 }, others_of frames frame apart.1 differ.1)

-- what ends before lies on one side
pub before_apart : (frames : List Frame) (frame : Frame) → AllByRecursion (λ (kept : Frame). kept.end ≤ frame.from) frames
    → AllByRecursion (λ (kept : Frame). (kept.end ≤ frame.from) ⊎ (frame.end ≤ kept.from)) frames
before_apart [] frame all = tt
before_apart (kept ∷ frames) frame all = (inl all.0, before_apart frames frame all.1)

-- with one more that was found, shares no byte with any and has a new handle, frames stay kept
kept_more : (bytes : List ℕ) (kept : List Frame) (frame : Frame) → AreKept bytes kept → IsFound bytes frame → AllByRecursion (λ (other : Frame). (other.end ≤ frame.from) ⊎ (frame.end ≤ other.from)) kept
    → is_new kept frame.handle ≡ true → AreKept bytes (kept ++ frame ∷ [])
kept_more bytes kept frame are found apart new = record {
  found = all_more (IsFound bytes) kept frame are.found found;
  other = pairs_more AreOther kept frame are.other (others_of kept frame apart (all_other kept frame.handle new));
}

-- the next candidate keeps them kept
mapped_stays : (bytes : List ℕ) (kept : List Frame) (frame : Frame) → IsFound bytes frame → AreKept bytes kept → AreKept bytes (keep_mapped kept frame)
mapped_stays bytes kept frame found are = of_test (follows kept frame.from && is_new kept frame.handle) refl
  where
    of_test : (test : Bool) → (follows kept frame.from && is_new kept frame.handle) ≡ test → AreKept bytes (if test then kept ++ frame ∷ [] else kept)
    of_test true is =
        let tests = both_hold (follows kept frame.from) (is_new kept frame.handle) is in
        kept_more bytes kept frame are found (before_apart kept frame (all_end kept frame.from tests.0)) tests.1
    of_test false is = are

-- no frames are kept
none_kept : (bytes : List ℕ) → AreKept bytes []
none_kept bytes = record { found = tt; other = λ i j d before within. absurd (omega arith) }

-- the frames that are kept for pairs of the map
pub mapped_are_kept : (bytes : List ℕ) (pairs : List Pair) → AreKept bytes (mapped_frames bytes pairs)
unfolding mapped_frames
mapped_are_kept bytes pairs =
    fold_keeps (AreKept bytes) (IsFound bytes) keep_mapped (mapped_stays bytes) [] (in_order_of_place (length bytes) (candidates bytes 0 pairs))
    (all_in_order (IsFound bytes) (length bytes) (candidates bytes 0 pairs) (candidates_found bytes 0 pairs)) (none_kept bytes)

-- the frame that is scanned at a place was found there
pub scanned_found : (classes : List Class) (bytes : List ℕ) (place : ℕ) (frame : Frame) → scanned classes bytes place ≡ Some frame → IsFound bytes frame
scanned_found classes bytes place frame is = of_span (span_found bytes place) refl is
  where
    of_test : (span : Span) (own : ℕ) → span_found bytes place ≡ Some span → own_of_span bytes span ≡ Some own → (common : Bool)
        → ◌≡◌ {A = Option Frame} (if common then Some (record { pair = None; handle = own; from = place; end = span.end }) else None) (Some frame) → IsFound bytes frame
    of_test span own stands owns true is = subst (IsFound bytes) (same_Some _ _ is) (record { span = span; stands = stands; own = owns; ends = refl })
    of_test span own stands owns false is = absurd cc

    of_own : (span : Span) → span_found bytes place ≡ Some span → (own : Option ℕ) → own_of_span bytes span ≡ own → option_and_then (scanned_of classes bytes place span) own ≡ Some frame → IsFound bytes frame
    of_own span stands None owns is = absurd cc
    of_own span stands (Some own) owns is = of_test span own stands owns (has_common_part (form_at (version_at bytes) classes (span_body bytes span))) is

    of_span : (span : Option Span) → span_found bytes place ≡ span
        → option_and_then (λ (span : Span). option_and_then (scanned_of classes bytes place span) (own_of_span bytes span)) span ≡ Some frame → IsFound bytes frame
    of_span None stands is = absurd cc
    of_span (Some span) stands is = of_own span stands (own_of_span bytes span) refl is

-- the frame at a place keeps them kept
scanned_stays : (classes : List Class) (bytes : List ℕ) (kept : List Frame) (place : ℕ) → AreKept bytes kept → AreKept bytes (keep_free kept (scanned classes bytes place))
scanned_stays classes bytes kept place are = of_found (scanned classes bytes place) refl
  where
    of_test : (frame : Frame) → IsFound bytes frame → (test : Bool) → (is_free kept frame.from frame.end && is_new kept frame.handle) ≡ test → AreKept bytes (if test then kept ++ frame ∷ [] else kept)
    of_test frame found true is =
        let tests = both_hold (is_free kept frame.from frame.end) (is_new kept frame.handle) is in
        kept_more bytes kept frame are found (all_apart kept frame.from frame.end tests.0) tests.1
    of_test frame found false is = are

    of_found : (found : Option Frame) → scanned classes bytes place ≡ found → AreKept bytes (keep_free kept found)
    of_found None is = are
    of_found (Some frame) is = of_test frame (scanned_found classes bytes place frame is) (is_free kept frame.from frame.end && is_new kept frame.handle) refl

-- and so those at places
scanned_over_stays : (classes : List Class) (bytes : List ℕ) (places : List ℕ) (kept : List Frame) → AreKept bytes kept → AreKept bytes (scanned_over classes bytes kept places)
scanned_over_stays classes bytes [] kept are = are
scanned_over_stays classes bytes (place ∷ places) kept are =
    scanned_over_stays classes bytes places (keep_free kept (scanned classes bytes place)) (scanned_stays classes bytes kept place are)

-- all frames that are kept
pub with_scanned_are_kept : (classes : List Class) (bytes : List ℕ) (kept : List Frame) → AreKept bytes kept → AreKept bytes (with_scanned classes bytes kept)
unfolding with_scanned
with_scanned_are_kept classes bytes kept are = scanned_over_stays classes bytes (range_with_len 0 (length bytes)) kept are

-- frames that a place follows are no more than the bytes before it
abbrev FewBefore : List Frame → Type 0
FewBefore frames = (place : ℕ) → follows frames place ≡ true → length frames ≤ place

-- what follows some and one more follows both
follows_more : (frames : List Frame) (frame : Frame) (place : ℕ) → follows (frames ++ frame ∷ []) place ≡ true → (follows frames place ≡ true) × (frame.end ≤ place)
follows_more [] frame place is = let tests = both_hold (nat_le frame.end place) true is in (refl, grind (arith, nat_tests, tests.0))
follows_more (first ∷ frames) frame place is =
    let tests = both_hold (nat_le first.end place) (follows (frames ++ frame ∷ []) place) is in
    let others = follows_more frames frame place tests.1 in
    (ap (λ test. test && follows frames place) tests.0 ∙ others.0, others.1)

-- the next candidate leaves them few
mapped_few : (bytes : List ℕ) (kept : List Frame) (frame : Frame) → IsPlaced (length bytes) frame → FewBefore kept → FewBefore (keep_mapped kept frame)
mapped_few bytes kept frame placed few = of_test (follows kept frame.from && is_new kept frame.handle) refl
  where
    of_test : (test : Bool) → (follows kept frame.from && is_new kept frame.handle) ≡ test → FewBefore (if test then kept ++ frame ∷ [] else kept)
    of_test true is place after =
        let tests = both_hold (follows kept frame.from) (is_new kept frame.handle) is in
        omega (arith, few frame.from tests.0, (follows_more kept frame place after).1, placed.some, length-append kept (frame ∷ []))
    of_test false is place after = few place after

-- the ends of frames that were found lie in the input
ends_within : (bytes : List ℕ) (frames : List Frame) → AllByRecursion (IsFound bytes) frames → AllByRecursion (λ (frame : Frame). frame.end ≤ length bytes) frames
ends_within bytes [] found = tt
ends_within bytes (frame ∷ frames) found = ((found_placed bytes frame found.0).within, ends_within bytes frames found.1)

-- the frames that are kept for pairs are no more than the input has bytes
pub mapped_are_few : (bytes : List ℕ) (pairs : List Pair) → length (mapped_frames bytes pairs) ≤ length bytes
unfolding mapped_frames
mapped_are_few bytes pairs =
    let ordered : List Frame = in_order_of_place (length bytes) (candidates bytes 0 pairs) in
    let found : AllByRecursion (IsFound bytes) ordered = all_in_order (IsFound bytes) (length bytes) (candidates bytes 0 pairs) (candidates_found bytes 0 pairs) in
    fold_keeps FewBefore (IsPlaced (length bytes)) keep_mapped (mapped_few bytes) [] ordered (all_placed bytes ordered found) (λ place after. omega arith) (length bytes)
    (ends_follow (mapped_of ordered) (length bytes) (ends_within bytes (mapped_of ordered) (mapped_are_kept bytes pairs).found))

-- a place adds one frame at the most
keep_free_few : (kept : List Frame) (found : Option Frame) → length (keep_free kept found) ≤ length kept + 1
keep_free_few kept None = omega arith
keep_free_few kept (Some frame) = of_test (is_free kept frame.from frame.end && is_new kept frame.handle)
  where
    of_test : (test : Bool) → length (if test then kept ++ frame ∷ [] else kept) ≤ length kept + 1
    of_test true = omega (arith, length-append kept (frame ∷ []))
    of_test false = omega arith

-- so places add no more than they are
scanned_over_few : (classes : List Class) (bytes : List ℕ) (places : List ℕ) (kept : List Frame) → length (scanned_over classes bytes kept places) ≤ length kept + length places
scanned_over_few classes bytes [] kept = omega arith
scanned_over_few classes bytes (place ∷ places) kept =
    omega (arith, scanned_over_few classes bytes places (keep_free kept (scanned classes bytes place)), keep_free_few kept (scanned classes bytes place))

-- and the input no more than its bytes
pub with_scanned_are_few : (classes : List Class) (bytes : List ℕ) (kept : List Frame) → length (with_scanned classes bytes kept) ≤ length kept + length bytes
unfolding with_scanned
with_scanned_are_few classes bytes kept =
    omega (arith, scanned_over_few classes bytes (range_with_len 0 (length bytes)) kept, length-range_with_len 0 (length bytes))
