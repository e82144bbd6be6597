-- The frame of a pair: its span, the bytes it shares, what is found of it, and its own handle.
use Rattle.std.proofs.Common.{◌≡◌, sym, ◌∙◌, ap, subst, ℕ, ◌<◌, Bool, true, false, List, get_or, ◌==◌, ◌≢◌, arith}
use Rattle.dwg_base.specs.declared.version.Version.{Version}
use Rattle.dwg_base.specs.Versions.{version_at}
use Rattle.std.specs.Prelude.{Result, Ok, Err, if◌then◌else◌}
use Rattle.std.proofs.lemmas.Bool.Decides.{nat_tests}
use Rattle.dwg_base.proofs.ByteLists.{are_bytes}
use Rattle.dwg_base.specs.Refusal.{Refusal}
use Rattle.dwg_base.specs.Refusals.{Tried}
use Rattle.dwg_base.specs.declared.refusal.Fault.{Fault}
use Rattle.dwg_base.specs.declared.refusal.Fault.TheVariants.{NoMemory, Refused}
use Rattle.dwg_classes.specs.declared.class.Class.{Class}
use Rattle.dwg_object.specs.declared.frame.Found.{Found}
use Rattle.dwg_object.specs.declared.span.Span.{Span}
use Rattle.dwg_object.specs.Forms.{FormOf}
use Rattle.dwg_object.specs.FoundFrames.{IsTried, AnswersFrame}
use Rattle.dwg_object.specs.FrameCauses.{IsFramed}
use Rattle.dwg_object.proofs.FrameLaws.{tried_frame_means, frames_same}
use Rattle.dwg_object.specs.FrameLines.{frame_refusal, span_body, tried_span, tried_frame}
use Rattle.dwg_object.specs.Frames.{FrameAt, SpanAt}
use Rattle.dwg_object.specs.Objects.{value_of, handle_of}
use Rattle.dwg_object.proofs.SpanLaws.{spans_same}
use Rattle.dwg_objmap.specs.declared.pair.Pair.{Pair}
use Rattle.dwg_file.specs.FileLines.{FoundFrame, touches, with_handle, with_span, tried_pair}
use Rattle.dwg_file.specs.FrameReading.{IsFrameFound, AnswersPair}
use Rattle.dwg_file.specs.ByteRanges.{Run, shares}

-- a span that is refused refuses the pair
pub span_refused : (bytes : List ℕ) (earlier : List FoundFrame) (index : ℕ) (pair : Pair) (refusal : Refusal) → tried_span pair.place index bytes ≡ Err refusal
    → tried_pair bytes earlier index pair ≡ Err refusal
unfolding tried_pair
span_refused bytes earlier index pair refusal tried = ap (with_span bytes earlier pair index) tried

-- a frame that shares a byte with an earlier one is refused
pub overlap_refused : (classes : List Class) (bytes : List ℕ) (earlier : List FoundFrame) (index : ℕ) (pair : Pair) (span : Span) (fault : Fault) → tried_span pair.place index bytes ≡ Ok span
    → touches earlier span.from span.end ≡ true → fault ≡ Refused (frame_refusal 29 index pair.place) → AnswersPair classes bytes pair (tried_pair bytes earlier index pair) (Err fault)
unfolding tried_pair
overlap_refused classes bytes earlier index pair span fault tried shared line =
    subst (λ (f : Fault). AnswersPair classes bytes pair (tried_pair bytes earlier index pair) (Err f)) (sym line)
    (ap (with_span bytes earlier pair index) tried
    ∙ ap (λ (test : Bool). if test then Err (frame_refusal 29 index pair.place) else with_handle pair index (tried_frame (version_at bytes) pair.place index bytes)) shared)

-- after a span that shares none, the frame decides, and then its own handle
frame_decides : (bytes : List ℕ) (earlier : List FoundFrame) (index : ℕ) (pair : Pair) (span : Span) → tried_span pair.place index bytes ≡ Ok span
    → touches earlier span.from span.end ≡ false → tried_pair bytes earlier index pair ≡ with_handle pair index (tried_frame (version_at bytes) pair.place index bytes)
unfolding tried_pair
frame_decides bytes earlier index pair span tried apart =
    ap (with_span bytes earlier pair index) tried
    ∙ ap (λ (test : Bool). if test then Err (frame_refusal 29 index pair.place) else with_handle pair index (tried_frame (version_at bytes) pair.place index bytes)) apart

-- what is answered of the frame at a span's place is so at the pair's
pub answered_at_pair : (version : Version) (bytes : List ℕ) (place from index : ℕ) (result : Result Found Fault) → version ≡ version_at bytes → from ≡ place → AnswersFrame result (tried_frame version from index bytes)
    → AnswersFrame result (tried_frame (version_at bytes) place index bytes)
answered_at_pair version bytes place from index result reported same answers =
    subst (λ (n : ℕ). AnswersFrame result (tried_frame (version_at bytes) n index bytes)) same (subst (λ (v : Version). AnswersFrame result (tried_frame v from index bytes)) reported answers)

-- a result that is a fault answers a pair as the fault does
pub answered_by : (classes : List Class) (bytes : List ℕ) (pair : Pair) (tried : Tried FoundFrame) (result : Result Found Fault) (fault : Fault) → result ≡ Err fault
    → AnswersPair classes bytes pair tried (Err fault) → AnswersPair classes bytes pair tried result
answered_by classes bytes pair tried result fault is = subst (AnswersPair classes bytes pair tried) (sym is)

-- and so is what was found
pub found_at_pair : (version : Version) (bytes : List ℕ) (place from : ℕ) (classes : List Class) (found : Found) → version ≡ version_at bytes → from ≡ place
    → (body : List ℕ) × FrameAt bytes from body found.end × FormOf version classes body (value_of found.object)
    → (body : List ℕ) × FrameAt bytes place body found.end × FormOf (version_at bytes) classes body (value_of found.object)
found_at_pair version bytes place from classes found reported same (body, frame, form) =
    (body, subst (λ (n : ℕ). FrameAt bytes n body found.end) same frame, subst (λ (v : Version). FormOf v classes body (value_of found.object)) reported form)

-- a frame that is refused refuses the pair
pub frame_refused : (classes : List Class) (bytes : List ℕ) (earlier : List FoundFrame) (index : ℕ) (pair : Pair) (span : Span) (fault : Fault) → tried_span pair.place index bytes ≡ Ok span
    → touches earlier span.from span.end ≡ false → AnswersFrame (Err fault) (tried_frame (version_at bytes) pair.place index bytes) → AnswersPair classes bytes pair (tried_pair bytes earlier index pair) (Err fault)
frame_refused classes bytes earlier index pair span NoMemory tried apart answers = tt
frame_refused classes bytes earlier index pair span (Refused refusal) tried apart answers =
    frame_decides bytes earlier index pair span tried apart ∙ ap (with_handle pair index) answers

-- and so does one that is passed on, whatever it became on the way
pub fault_passed_on : (classes : List Class) (bytes : List ℕ) (earlier : List FoundFrame) (index : ℕ) (pair : Pair) (span : Span) (version : Version) (fault passed : Fault) → passed ≡ fault
    → tried_span pair.place index bytes ≡ Ok span → touches earlier span.from span.end ≡ false → version ≡ version_at bytes → span.from ≡ pair.place
    → AnswersFrame (Err fault) (tried_frame version span.from index bytes) → AnswersPair classes bytes pair (tried_pair bytes earlier index pair) (Err passed)
fault_passed_on classes bytes earlier index pair span version fault passed is tried apart reported same answers =
    subst (λ (f : Fault). AnswersPair classes bytes pair (tried_pair bytes earlier index pair) (Err f)) (sym is)
    (frame_refused classes bytes earlier index pair span fault tried apart (answered_at_pair version bytes pair.place span.from index (Err fault) reported same answers))

-- a frame with another handle is refused
pub handle_refused : (classes : List Class) (bytes : List ℕ) (earlier : List FoundFrame) (index own : ℕ) (pair : Pair) (span : Span) (found : Found) (fault : Fault) → tried_span pair.place index bytes ≡ Ok span
    → touches earlier span.from span.end ≡ false → IsTried found (tried_frame (version_at bytes) pair.place index bytes) → own ≡ handle_of (value_of found.object) → own ≢ pair.handle
    → fault ≡ Refused (frame_refusal 32 index pair.place) → AnswersPair classes bytes pair (tried_pair bytes earlier index pair) (Err fault)
handle_refused classes bytes earlier index own pair span found fault tried apart is same other line =
    let differs : (is.parts.own == pair.handle) ≡ false = grind (arith, nat_tests, same, other, is.same_own) in
    subst (λ (f : Fault). AnswersPair classes bytes pair (tried_pair bytes earlier index pair) (Err f)) (sym line)
    (frame_decides bytes earlier index pair span tried apart ∙ ap (with_handle pair index) is.tries
    ∙ ap (λ (test : Bool). if test then Ok (is.span, is.parts) else Err (frame_refusal 32 index pair.place)) differs)

-- the span of a frame that was found is the one that stands at its place
pub span_found : (bytes : List ℕ) (index : ℕ) (place : ℕ) (span : Span) (found : Found) → ((i : ℕ) → get_or bytes i 0 < 256) → SpanAt bytes span → span.from ≡ place
    → (is : IsTried found (tried_frame (version_at bytes) place index bytes)) → (span ≡ is.span) × IsFramed bytes place is.span
span_found bytes index place span found small stands from is =
    let framed = ((tried_frame_means (version_at bytes) bytes place index (Ok (is.span, is.parts)) (are_bytes bytes small)).0 is.tries).0 in
    (spans_same bytes span is.span stands framed.stands (from ∙ sym framed.from), framed)

-- a frame whose own handle is the pair's is found
pub frame_found : (classes : List Class) (bytes : List ℕ) (earlier : List FoundFrame) (index own : ℕ) (pair : Pair) (span : Span) (found : Found) → ((i : ℕ) → get_or bytes i 0 < 256)
    → tried_span pair.place index bytes ≡ Ok span → SpanAt bytes span → span.from ≡ pair.place → touches earlier span.from span.end ≡ false
    → IsTried found (tried_frame (version_at bytes) pair.place index bytes) → (body : List ℕ) × FrameAt bytes pair.place body found.end × FormOf (version_at bytes) classes body (value_of found.object)
    → own ≡ handle_of (value_of found.object) → own ≡ pair.handle → IsFrameFound classes bytes pair (tried_pair bytes earlier index pair) found
frame_found classes bytes earlier index own pair span found small tried stands from apart is form same own_is =
    let there = span_found bytes index pair.place span found small stands from is in
    let equal : (is.parts.own == pair.handle) ≡ true = grind (arith, nat_tests, same, own_is, is.same_own) in
    let body = (frames_same bytes pair.place form.0 (span_body bytes is.span) found.end is.span.end form.1 there.1.frame).0 in
    record {
      frame = (is.span, is.parts);
      tries = frame_decides bytes earlier index pair span tried apart ∙ ap (with_handle pair index) is.tries
          ∙ ap (λ (test : Bool). if test then Ok (is.span, is.parts) else Err (frame_refusal 32 index pair.place)) equal;
      from = there.1.from;
      end = sym is.same_end;
      head = sym is.same_own ∙ sym same ∙ own_is;
      form = subst (λ (b : List ℕ). FormOf (version_at bytes) classes b (value_of found.object)) body form.2;
      own = sym same ∙ own_is;
    }

-- its bytes share none with those that are taken
pub frame_apart : (bytes : List ℕ) (taken : List Run) (index : ℕ) (place : ℕ) (span : Span) (found : Found) → ((i : ℕ) → get_or bytes i 0 < 256) → SpanAt bytes span → span.from ≡ place
    → IsTried found (tried_frame (version_at bytes) place index bytes) → shares taken span.from span.end ≡ false → shares taken place found.end ≡ false
frame_apart bytes taken index place span found small stands from is apart =
    let there = span_found bytes index place span found small stands from is in
    let end : span.end ≡ found.end = ap (λ (s : Span). s.end) there.0 ∙ sym is.same_end in
    subst (λ (e : ℕ). shares taken place e ≡ false) end (subst (λ (f : ℕ). shares taken f span.end ≡ false) from apart)
