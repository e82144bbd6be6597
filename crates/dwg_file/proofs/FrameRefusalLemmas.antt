-- The lines on frames refuse an input with a map exactly where a pair is the first whose frame fails.
use Rattle.dwg_base.specs.Versions.{version_at}
use Rattle.std.proofs.Common.{◌≡◌, refl, sym, ◌∙◌, ap, ap₂, subst, inl, inr, ℕ, ◌+◌, Bool, true, false, List, [], ◌∷◌, ◌++◌, length, Some, append_assoc, arith}
use Rattle.std.specs.Prelude.{⊤, ◌⊎◌, ◌<◌, ◌==◌, ◌&&◌, ◌||◌, map, nat_lt, Ok, Err, if◌then◌else◌}
use Rattle.std.specs.List.{AllByRecursion}
use Rattle.std.specs.Result.{result_unwrap_or}
use Rattle.std.proofs.lemmas.Bool.Decides.{nat_tests}
use Rattle.std.proofs.lemmas.List.{append-nil, length-map}
use Rattle.dwg_base.specs.Bytes.{AreBytes}
use Rattle.dwg_base.specs.Refusals.{Tried, fault_of}
use Rattle.dwg_base.specs.Refusal.{Refusal}
use Rattle.dwg_classes.specs.declared.class.Class.{Class}
use Rattle.dwg_object.specs.declared.span.Span.{Span}
use Rattle.dwg_object.specs.Frames.{SpanAt}
use Rattle.dwg_object.specs.FrameCauses.{SpanRefused, CheckRefused, HeadRefused}
use Rattle.dwg_object.proofs.FrameLaws.{frames_same, tried_frame_means}
use Rattle.dwg_object.specs.FrameLines.{frame_refusal, tried_span, tried_frame}
use Rattle.dwg_object.proofs.SpanLaws.{spans_same, span_unrefused, tried_span_means}
use Rattle.dwg_objmap.specs.declared.pair.Pair.{Pair}
use Rattle.dwg_objmap.proofs.MapLemmas.{map_is_tried}
use Rattle.dwg_objmap.specs.Pages.{MapOf}
use Rattle.dwg_sections.specs.HeaderLaws.{HeaderIsRead}
use Rattle.dwg_file.specs.FileLines.{FoundFrame, section_place, map_tried, touches, with_handle, with_span, tried_pair, with_found, frames_after, frames_tried, frames_row}
use Rattle.dwg_file.specs.FrameRefusals.{SharesByte, Overlaps, PairRefused, FramesRefused, FramesAreRefused}
use Rattle.dwg_file.proofs.FramesFound.{AreFound, pair_found, found_pair}
use Rattle.dwg_file.proofs.FramesSpelled.{frames_of, found_of, free_of_none}
use Rattle.dwg_file.proofs.PassingLemmas.{forms_at}
use Rattle.dwg_file.proofs.ReadingLemmas.{located_same}
use Rattle.dwg_file.specs.DrawingAt.{objects_at}
use Rattle.dwg_file.specs.Spelled.{PairFrame, IsFrameOfPair}

-- what was found has the places of frames
abbrev Alike : List FoundFrame → List PairFrame → Type 0
Alike [] [] = ⊤
Alike [] (frame ∷ frames) = ⊥
Alike (found ∷ founds) [] = ⊥
Alike (found ∷ founds) (frame ∷ frames) = (found.0.from ≡ frame.pair.place) × (found.0.end ≡ frame.end) × Alike founds frames

-- what is found of the pairs of frames has their places
alike : (classes : List Class) (bytes : List ℕ) (earlier founds : List FoundFrame) (frames : List PairFrame)
    → AreFound bytes earlier (map (λ (frame : PairFrame). frame.pair) frames) founds → AllByRecursion (IsFrameOfPair classes bytes) frames → Alike founds frames
alike classes bytes earlier founds [] none stand = subst (λ (f : List FoundFrame). Alike f []) (sym none) tt
alike classes bytes earlier founds (frame ∷ frames) (found, after, is, first, more) stand =
    subst (λ (f : List FoundFrame). Alike f (frame ∷ frames)) (sym is) (
      first.framed.from,
      (frames_same bytes frame.pair.place _ frame.body found.0.end frame.end first.framed.frame stand.0.stands).1,
      alike classes bytes (earlier ++ found ∷ []) after frames more stand.1,
    )

-- a span that touches what was found shares a byte with one of the frames
shares_of_touches : (founds : List FoundFrame) (frames : List PairFrame) (span : Span) → Alike founds frames → touches founds span.from span.end ≡ true → SharesByte frames span
shares_of_touches [] frames span same touched = absurd cc
shares_of_touches (found ∷ founds) [] span same touched = absurd same
shares_of_touches (found ∷ founds) (frame ∷ frames) span same touched =
    of_tests (nat_lt span.from found.0.end) refl (nat_lt found.0.from span.end) refl (λ more. shares_of_touches founds frames span same.2 more)
  where
    after : (nat_lt span.from found.0.end && nat_lt found.0.from span.end) ≡ false → (touches founds span.from span.end ≡ true → SharesByte frames span) → SharesByte (frame ∷ frames) span
    after apart others = inr (others (sym (ap (λ here. here || touches founds span.from span.end) apart) ∙ touched))

    of_tests : (before : Bool) → nat_lt span.from found.0.end ≡ before → (past : Bool) → nat_lt found.0.from span.end ≡ past
        → (touches founds span.from span.end ≡ true → SharesByte frames span) → SharesByte (frame ∷ frames) span
    of_tests false before past test others = after (ap (λ one. one && nat_lt found.0.from span.end) before) others
    of_tests true before false test others = after (ap₂ (λ one other. one && other) before test) others
    of_tests true before true test others =
        let from : found.0.from < span.end = grind (arith, nat_tests) in
        let end : span.from < found.0.end = grind (arith, nat_tests) in
        inl (omega (arith, from, same.0), omega (arith, end, same.1))

-- and one that shares a byte with one of the frames touches what was found
touches_of_shares : (founds : List FoundFrame) (frames : List PairFrame) (span : Span) → Alike founds frames → SharesByte frames span → touches founds span.from span.end ≡ true
touches_of_shares [] [] span same shares = absurd shares
touches_of_shares [] (frame ∷ frames) span same shares = absurd same
touches_of_shares (found ∷ founds) [] span same shares = absurd same
touches_of_shares (found ∷ founds) (frame ∷ frames) span same (inl (before, after)) =
    let past : span.from < found.0.end = omega (arith, after, same.1) in
    let from : found.0.from < span.end = omega (arith, before, same.0) in
    let one : nat_lt span.from found.0.end ≡ true = grind (arith, nat_tests) in
    let other : nat_lt found.0.from span.end ≡ true = grind (arith, nat_tests) in
    ap₂ (λ a b. (a && b) || touches founds span.from span.end) one other
touches_of_shares (found ∷ founds) (frame ∷ frames) span same (inr shares) =
    or_true (nat_lt span.from found.0.end && nat_lt found.0.from span.end) (touches founds span.from span.end) (touches_of_shares founds frames span same.2 shares)
  where
    or_true : (one other : Bool) → other ≡ true → (one || other) ≡ true
    or_true false other is = is
    or_true true other is = refl

-- where nothing overlaps, the span at the place of a pair touches nothing
untouched : (bytes : List ℕ) (founds : List FoundFrame) (frames : List PairFrame) (pair : Pair) (span : Span) → Alike founds frames → SpanAt bytes span → span.from ≡ pair.place
    → (Overlaps bytes frames pair → ⊥) → touches founds span.from span.end ≡ false
untouched bytes founds frames pair span same stands from apart = of_test (touches founds span.from span.end) refl
  where
    of_test : (test : Bool) → touches founds span.from span.end ≡ test → touches founds span.from span.end ≡ false
    of_test false is = is
    of_test true is = absurd (apart (record { span = span; stands = stands; from = from; shares = shares_of_touches founds frames span same is }))

-- and where it touches nothing, nothing overlaps
apart_of : (bytes : List ℕ) (founds : List FoundFrame) (frames : List PairFrame) (pair : Pair) (span : Span) → Alike founds frames → SpanAt bytes span → span.from ≡ pair.place
    → touches founds span.from span.end ≡ false → Overlaps bytes frames pair → ⊥
apart_of bytes founds frames pair span same stands from free overlaps =
    let one = spans_same bytes span overlaps.span stands overlaps.stands (from ∙ sym overlaps.from) in
    let touched = touches_of_shares founds frames overlaps.span same overlaps.shares in
    let here : touches founds span.from span.end ≡ true = subst (λ (s : Span). touches founds s.from s.end ≡ true) (sym one) touched in
    let both : false ≡ true = sym free ∙ here in
    absurd cc

-- what was tried has one refusal
err_same : {V : Type 0} (one other : Refusal) → ◌≡◌ {A = Tried V} (Err one) (Err other) → one ≡ other
err_same {V} one other same = cc

-- a pair whose frame is refused fails as it is said
pair_refused : (bytes : List ℕ) (founds : List FoundFrame) (frames : List PairFrame) (index : ℕ) (pair : Pair) (refusal : Refusal) → AreBytes bytes → Alike founds frames
    → tried_pair bytes founds index pair ≡ Err refusal → PairRefused bytes frames index pair refusal
unfolding tried_pair
pair_refused bytes founds frames index pair refusal are same fails = of_span (tried_span pair.place index bytes) refl fails
  where
    of_found : (span : Span) (found : FoundFrame) → (Overlaps bytes frames pair → ⊥) → tried_frame (version_at bytes) pair.place index bytes ≡ Ok found → (test : Bool) → (found.1.own == pair.handle) ≡ test
        → ◌≡◌ {A = Tried FoundFrame} (if test then Ok found else Err (frame_refusal 32 index pair.place)) (Err refusal) → PairRefused bytes frames index pair refusal
    of_found span found apart is true own fails = absurd cc
    of_found span found apart is false own fails =
        let reported = (tried_frame_means (version_at bytes) bytes pair.place index (Ok found) are).0 is in
        inr (inr (
          apart,
          inr (inr (record {
            span = found.0;
            framed = reported.0;
            parts = found.1;
            head = reported.1;
            other = λ equal. grind (arith, nat_tests);
            line = sym (err_same (frame_refusal 32 index pair.place) refusal fails);
          })),
        ))

    of_reported : (span : Span) → SpanAt bytes span → span.from ≡ pair.place → (Overlaps bytes frames pair → ⊥)
        → SpanRefused bytes pair.place index refusal ⊎ (CheckRefused bytes pair.place index refusal ⊎ HeadRefused (version_at bytes) bytes pair.place index refusal) → PairRefused bytes frames index pair refusal
    of_reported span stands from apart (inl refused) = absurd (span_unrefused bytes pair.place index span refusal stands from refused)
    of_reported span stands from apart (inr (inl check)) = inr (inr (apart, inl check))
    of_reported span stands from apart (inr (inr head)) = inr (inr (apart, inr (inl head)))

    of_frame : (span : Span) → SpanAt bytes span → span.from ≡ pair.place → (Overlaps bytes frames pair → ⊥) → (tried : Tried FoundFrame) → tried_frame (version_at bytes) pair.place index bytes ≡ tried
        → with_handle pair index tried ≡ Err refusal → PairRefused bytes frames index pair refusal
    of_frame span stands from apart (Err other) is fails =
        of_reported span stands from apart ((tried_frame_means (version_at bytes) bytes pair.place index (Err refusal) are).0 (is ∙ fails))
    of_frame span stands from apart (Ok found) is fails = of_found span found apart is (found.1.own == pair.handle) refl fails

    of_touch : (span : Span) → SpanAt bytes span → span.from ≡ pair.place → (test : Bool) → touches founds span.from span.end ≡ test
        → (if test then Err (frame_refusal 29 index pair.place) else with_handle pair index (tried_frame (version_at bytes) pair.place index bytes)) ≡ Err refusal
        → PairRefused bytes frames index pair refusal
    of_touch span stands from true touched fails =
        inr (inl (
          record { span = span; stands = stands; from = from; shares = shares_of_touches founds frames span same touched },
          sym (err_same (frame_refusal 29 index pair.place) refusal fails),
        ))
    of_touch span stands from false free fails =
        of_frame span stands from (apart_of bytes founds frames pair span same stands from free) (tried_frame (version_at bytes) pair.place index bytes) refl fails

    of_span : (tried : Tried Span) → tried_span pair.place index bytes ≡ tried → with_span bytes founds pair index tried ≡ Err refusal → PairRefused bytes frames index pair refusal
    of_span (Err other) is fails =
        inl ((tried_span_means bytes pair.place index (Err refusal) are).0 (is ∙ ap Err (err_same other refusal fails)))
    of_span (Ok span) is fails =
        let reported = (tried_span_means bytes pair.place index (Ok span) are).0 is in
        of_touch span reported.0 reported.1 (touches founds span.from span.end) refl fails

-- and a pair that fails so is refused
refused_pair : (bytes : List ℕ) (founds : List FoundFrame) (frames : List PairFrame) (index : ℕ) (pair : Pair) (refusal : Refusal) → AreBytes bytes → Alike founds frames
    → PairRefused bytes frames index pair refusal → tried_pair bytes founds index pair ≡ Err refusal
unfolding tried_pair
refused_pair bytes founds frames index pair refusal are same fails = of_cause fails
  where
    goes_on : (span : Span) → SpanAt bytes span → span.from ≡ pair.place → (Overlaps bytes frames pair → ⊥)
        → with_span bytes founds pair index (tried_span pair.place index bytes) ≡ with_handle pair index (tried_frame (version_at bytes) pair.place index bytes)
    goes_on span stands from apart =
        ap (with_span bytes founds pair index) ((tried_span_means bytes pair.place index (Ok span) are).1 (stands, from))
        ∙ ap (λ test. if test then Err (frame_refusal 29 index pair.place) else with_handle pair index (tried_frame (version_at bytes) pair.place index bytes))
        (untouched bytes founds frames pair span same stands from apart)

    of_cause : PairRefused bytes frames index pair refusal → with_span bytes founds pair index (tried_span pair.place index bytes) ≡ Err refusal
    of_cause (inl span) = ap (with_span bytes founds pair index) ((tried_span_means bytes pair.place index (Err refusal) are).1 span)
    of_cause (inr (inl (overlaps, line))) =
        ap (with_span bytes founds pair index) ((tried_span_means bytes pair.place index (Ok overlaps.span) are).1 (overlaps.stands, overlaps.from))
        ∙ ap (λ test. if test then Err (frame_refusal 29 index pair.place) else with_handle pair index (tried_frame (version_at bytes) pair.place index bytes))
        (touches_of_shares founds frames overlaps.span same overlaps.shares)
        ∙ ap Err (sym line)
    of_cause (inr (inr (apart, inl check))) =
        goes_on check.span check.stands check.from apart
        ∙ ap (with_handle pair index) ((tried_frame_means (version_at bytes) bytes pair.place index (Err refusal) are).1 (inr (inl check)))
    of_cause (inr (inr (apart, inr (inl head)))) =
        goes_on head.span head.framed.stands head.framed.from apart
        ∙ ap (with_handle pair index) ((tried_frame_means (version_at bytes) bytes pair.place index (Err refusal) are).1 (inr (inr head)))
    of_cause (inr (inr (apart, inr (inr handle)))) =
        goes_on handle.span handle.framed.stands handle.framed.from apart
        ∙ ap (with_handle pair index) ((tried_frame_means (version_at bytes) bytes pair.place index (Ok (handle.span, handle.parts)) are).1 (handle.framed, handle.head))
        ∙ ap (λ test. if test then Ok (handle.span, handle.parts) else Err (frame_refusal 32 index pair.place)) (other_test handle.parts.own pair.handle handle.other)
        ∙ ap Err (sym handle.line)
      where
        other_test : (a b : ℕ) → (a ≡ b → ⊥) → (a == b) ≡ false
        other_test a b other = of_test (a == b) refl
          where
            of_test : (test : Bool) → (a == b) ≡ test → (a == b) ≡ false
            of_test false is = is
            of_test true is = absurd (other (grind (arith, nat_tests)))

-- the first of pairs whose frame is refused, after earlier frames
record FirstRefused (bytes : List ℕ) (index : ℕ) (earlier : List FoundFrame) (pairs : List Pair) (refusal : Refusal) : Type 0 where
  before : List Pair
  pair : Pair
  after : List Pair
  whole : pairs ≡ before ++ pair ∷ after
  founds : List FoundFrame
  found : AreFound bytes earlier before founds
  fails : tried_pair bytes (earlier ++ founds) (index + length before) pair ≡ Err refusal

-- where what is tried of pairs is a refusal there is a first pair that is refused
first_refused : (bytes : List ℕ) (index : ℕ) (earlier : List FoundFrame) (pairs : List Pair) (refusal : Refusal) → AreBytes bytes → frames_after bytes index earlier pairs ≡ Err refusal
    → FirstRefused bytes index earlier pairs refusal
unfolding frames_after
first_refused bytes index earlier [] refusal are fails = absurd cc
first_refused bytes index earlier (pair ∷ pairs) refusal are fails =
    of_tried (tried_pair bytes earlier index pair) refl fails (λ found more. first_refused bytes (index + 1) (earlier ++ found ∷ []) pairs refusal are more)
  where
    of_tried : (tried : Tried FoundFrame) → tried_pair bytes earlier index pair ≡ tried
        → with_found (λ found. frames_after bytes (index + 1) (earlier ++ found ∷ []) pairs) tried ≡ Err refusal
        → ((found : FoundFrame) → frames_after bytes (index + 1) (earlier ++ found ∷ []) pairs ≡ Err refusal → FirstRefused bytes (index + 1) (earlier ++ found ∷ []) pairs refusal)
        → FirstRefused bytes index earlier (pair ∷ pairs) refusal
    of_tried (Err other) is fails after = record {
      before = [];
      pair = pair;
      after = pairs;
      whole = refl;
      founds = [];
      found = refl;
      fails = ap₂ (λ (f : List FoundFrame) n. tried_pair bytes f n pair) (append-nil earlier) (omega arith) ∙ is ∙ ap Err (err_same other refusal fails);
    }
    of_tried (Ok found) is fails after =
        let more = after found fails in
        record {
          before = pair ∷ more.before;
          pair = more.pair;
          after = more.after;
          whole = ap (λ all. pair ∷ all) more.whole;
          founds = found ∷ more.founds;
          found = (found, more.founds, refl, pair_found bytes earlier index pair found are is, more.found);
          fails = ap₂ (λ (f : List FoundFrame) n. tried_pair bytes f n more.pair) (sym (append_assoc earlier (found ∷ []) more.founds)) (omega arith) ∙ more.fails;
        }

-- and where a pair is the first that is refused, so are the pairs
refused_first : (bytes : List ℕ) (index : ℕ) (earlier : List FoundFrame) (before : List Pair) (pair : Pair) (after : List Pair) (founds : List FoundFrame) (refusal : Refusal) → AreBytes bytes
    → AreFound bytes earlier before founds → tried_pair bytes (earlier ++ founds) (index + length before) pair ≡ Err refusal → frames_after bytes index earlier (before ++ pair ∷ after) ≡ Err refusal
unfolding frames_after
refused_first bytes index earlier [] pair after founds refusal are none fails =
    let here : tried_pair bytes earlier index pair ≡ Err refusal =
    ap₂ (λ (f : List FoundFrame) n. tried_pair bytes f n pair) (sym (ap (λ (f : List FoundFrame). earlier ++ f) none ∙ append-nil earlier)) (omega arith) ∙ fails in
    ap (with_found (λ found. frames_after bytes (index + 1) (earlier ++ found ∷ []) after)) here
refused_first bytes index earlier (first ∷ before) pair after founds refusal are (found, more, is, one, others) fails =
    ap (with_found (λ found. frames_after bytes (index + 1) (earlier ++ found ∷ []) (before ++ pair ∷ after))) (found_pair bytes earlier index first found are one)
    ∙ refused_first bytes (index + 1) (earlier ++ found ∷ []) before pair after more refusal are others
    (ap₂ (λ (f : List FoundFrame) n. tried_pair bytes f n pair) (append_assoc earlier (found ∷ []) more ∙ ap (λ (f : List FoundFrame). earlier ++ f) (sym is)) (omega arith) ∙ fails)

-- what is tried of the frames of pairs is a refusal where the first pair that fails has it
refused_of : (classes : List Class) (bytes : List ℕ) (pairs : List Pair) (refusal : Refusal) → AreBytes bytes → frames_after bytes 0 [] pairs ≡ Err refusal → FramesRefused classes bytes pairs refusal
refused_of classes bytes pairs refusal are fails =
    let first = first_refused bytes 0 [] pairs refusal are fails in
    let all = frames_of classes bytes [] first.before first.founds (objects_at classes bytes first.founds) first.found (forms_at classes bytes [] first.before first.founds first.found) in
    let same = alike classes bytes [] first.founds all.frames (subst (λ (p : List Pair). AreFound bytes [] p first.founds) all.framed first.found) all.stand in
    let long : length first.before ≡ length all.frames = ap length all.framed ∙ length-map all.frames (λ (frame : PairFrame). frame.pair) in
    let index : length first.before ≡ 0 + length first.before = omega arith in
    record {
      frames = all.frames;
      stand = all.stand;
      apart = all.apart;
      pair = first.pair;
      after = first.after;
      whole = first.whole ∙ ap (λ prefix. prefix ++ first.pair ∷ first.after) all.framed;
      fails = pair_refused bytes first.founds all.frames (length all.frames) first.pair refusal are same
          (ap (λ n. tried_pair bytes first.founds n first.pair) (sym long ∙ index) ∙ first.fails);
    }

-- and the other way round
of_refused : (classes : List Class) (bytes : List ℕ) (pairs : List Pair) (refusal : Refusal) → AreBytes bytes → FramesRefused classes bytes pairs refusal → frames_after bytes 0 [] pairs ≡ Err refusal
of_refused classes bytes pairs refusal are is =
    let before : List Pair = map (λ (frame : PairFrame). frame.pair) is.frames in
    let all = found_of classes bytes [] is.frames is.stand is.apart (free_of_none is.frames) in
    let same = alike classes bytes [] all.founds is.frames all.found is.stand in
    let index : 0 + length before ≡ length is.frames = omega (arith, length-map is.frames (λ (frame : PairFrame). frame.pair)) in
    ap (frames_after bytes 0 []) is.whole
    ∙ refused_first bytes 0 [] before is.pair is.after all.founds refusal are all.found
    (ap (λ n. tried_pair bytes all.founds n is.pair) index ∙ refused_pair bytes all.founds is.frames (length is.frames) is.pair refusal are same is.fails)

-- what was tried has the refusal that its line reports
pub err_of_fault : {V : Type 0} (tried : Tried V) (refusal : Refusal) → fault_of tried ≡ Some refusal → tried ≡ Err refusal
err_of_fault {V} (Ok value) refusal same = absurd cc
err_of_fault {V} (Err other) refusal same = let is : other ≡ refusal = cc in ap Err is

-- so the lines on frames refuse exactly there
pub frames_are_refused : HeaderIsRead → FramesAreRefused
unfolding map_tried frames_tried frames_row
frames_are_refused read classes bytes header place pairs refusal are begins located is =
    let here : place ≡ section_place 2 bytes = located_same bytes header 2 place (read bytes header begins).1 located in
    let mapped : map_tried bytes ≡ Ok pairs = (map_is_tried (section_place 2 bytes) bytes pairs are).1 (subst (λ n. MapOf bytes n pairs) here is) in
    let same : frames_tried bytes ≡ frames_after bytes 0 [] pairs = ap (λ (tried : Tried (List Pair)). frames_after bytes 0 [] (result_unwrap_or tried [])) mapped in (
      (λ refused. refused_of classes bytes pairs refusal are (sym same ∙ err_of_fault (frames_tried bytes) refusal refused)),
      (λ refused. ap fault_of (same ∙ of_refused classes bytes pairs refusal are refused)),
    )
