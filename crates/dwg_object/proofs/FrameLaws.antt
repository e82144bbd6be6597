-- What is tried of a frame is what the input reports: by its span, by the check word of that, and by the head of its body.
use Rattle.std.proofs.Common.{◌≡◌, refl, sym, ◌∙◌, ap, ap₂, subst, ℕ, ◌+◌, ◌-◌, Bool, true, false, List, ◌++◌, length, Option, Some, None, inl, inr, arith}
use Rattle.dwg_base.specs.declared.version.Version.{Version}
use Rattle.std.specs.Prelude.{◌==◌, not, Ok, Err, if◌then◌else◌}
use Rattle.std.specs.Int.{w16, from_le_bytes, to_le_bytes}
use Rattle.std.proofs.lemmas.Bool.Decides.{nat_tests}
use Rattle.std.proofs.lemmas.List.{length-append, append_cancel_left}
use Rattle.dwg_base.specs.Bytes.{AreBytes, StandsAt}
use Rattle.dwg_base.specs.Refusals.{Tried}
use Rattle.dwg_base.specs.Refusal.{Refusal}
use Rattle.dwg_bits.specs.Bits.{bits}
use Rattle.dwg_check.specs.CheckWord.{CHECK_SEED, check_word}
use Rattle.dwg_check.proofs.CheckWordLaws.{check_word_fits}
use Rattle.dwg_grammar.proofs.NumberLemmas.{bytes_of_16, number_of_16}
use Rattle.dwg_object.specs.declared.span.Span.{Span}
use Rattle.dwg_object.specs.Objects.{HeadParts}
use Rattle.dwg_object.specs.Heads.{HasHead, BeginsWithHead}
use Rattle.dwg_object.specs.Frames.{FrameAt, FrameHolds, SpanAt}
use Rattle.dwg_object.specs.FrameLines.{frame_refusal, span_of, bytes_from, span_body, has_check_word, head_at, head_tried, frame_checked, tried_span, tried_frame}
use Rattle.dwg_base.specs.Versions.{version_at}
use Rattle.dwg_object.specs.FrameCauses.{IsFramed, ReportsSpan, ReportsFrame}
use Rattle.dwg_object.proofs.StandingLemmas.{take_stands, stands_first, stands_next, stands_same, stands_bytes}
use Rattle.dwg_object.proofs.HeadLemmas.{ReportsHead, head_reported, head_only, head_begins, begins_head}
use Rattle.dwg_object.proofs.SpanLaws.{lengths_same, span_size, span_reported, tried_span_means}
use Rattle.dwg_object.specs.FrameLaws.{FramesAreHeld, FramesAreOne, FramesAreReported}

-- the word that is written of a check word
abbrev word_of : List ℕ → List ℕ
word_of bytes = to_le_bytes w16 (check_word CHECK_SEED bytes)

-- the length of a frame stands at its place
frame_size : (bytes : List ℕ) (place : ℕ) (body : List ℕ) (end : ℕ) (is : FrameAt bytes place body end) → StandsAt bytes place is.size
frame_size bytes place body end is =
    stands_first bytes place is.size body (stands_first bytes place (is.size ++ body) (word_of (is.size ++ body)) is.stands)

-- a length and a body that stand at one place are one
prefixes_same : (bytes : List ℕ) (place : ℕ) (size body other_size other : List ℕ) → StandsAt bytes place (size ++ body) → StandsAt bytes place (other_size ++ other)
    → size ≡ other_size → length body ≡ length other → body ≡ other
prefixes_same bytes place size body other_size other stands others same long =
    append_cancel_left size body other (stands_same bytes place (size ++ body) (size ++ other) stands (subst (λ (s : List ℕ). StandsAt bytes place (s ++ other)) (sym same) others)
    (length-append size body ∙ ap (λ n. length size + n) long ∙ sym (length-append size other)))

-- so there is
pub frames_same : FramesAreOne
frames_same bytes place body other end other_end is was =
    let sizes = lengths_same bytes place (length body) (length other) is.size was.size is.spelled was.spelled (frame_size bytes place body end is) (frame_size bytes place other other_end was) in (
      prefixes_same bytes place is.size body was.size other (stands_first bytes place (is.size ++ body) (word_of (is.size ++ body)) is.stands)
          (stands_first bytes place (was.size ++ other) (word_of (was.size ++ other)) was.stands) sizes.1 sizes.0,
      omega (arith, is.ends, was.ends, ap length sizes.1, sizes.0),
    )

-- the bytes from a place to the end of what stands there
from_stands : (bytes : List ℕ) (place to : ℕ) (piece : List ℕ) → StandsAt bytes place piece → to ≡ place + length piece → bytes_from bytes place to ≡ piece
from_stands bytes place to piece stands ends = take_stands bytes place piece (to - place) stands (omega (arith, ends))

-- the length and the body of a span
prefix_of_span : (bytes : List ℕ) (span : Span) (is : SpanAt bytes span) → bytes_from bytes span.from span.body_end ≡ is.size ++ is.body
prefix_of_span bytes span is =
    from_stands bytes span.from span.body_end (is.size ++ is.body) (stands_first bytes span.from (is.size ++ is.body) is.word is.stands)
    (omega (arith, is.body_place, is.body_end, length-append is.size is.body))

-- the body of a span
pub body_of_span : (bytes : List ℕ) (span : Span) (is : SpanAt bytes span) → span_body bytes span ≡ is.body
body_of_span bytes span is =
    from_stands bytes span.body span.body_end is.body
    (subst (λ n. StandsAt bytes n is.body) (sym is.body_place) (stands_next bytes span.from is.size is.body (stands_first bytes span.from (is.size ++ is.body) is.word is.stands)))
    is.body_end

-- what stands where the check word of a span is
word_of_span : (bytes : List ℕ) (span : Span) (is : SpanAt bytes span) → bytes_from bytes span.body_end span.end ≡ is.word
word_of_span bytes span is =
    let place : span.body_end ≡ span.from + length (is.size ++ is.body) = omega (arith, is.body_place, is.body_end, length-append is.size is.body) in
    from_stands bytes span.body_end span.end is.word
    (subst (λ n. StandsAt bytes n is.word) (sym place) (stands_next bytes span.from (is.size ++ is.body) is.word is.stands))
    (omega (arith, is.ends, is.two))

-- a span whose check word is right frames its body
frame_of_word : (bytes : List ℕ) (span : Span) (is : SpanAt bytes span) → is.word ≡ word_of (is.size ++ is.body) → FrameAt bytes span.from is.body span.end
frame_of_word bytes span is right = record {
  size = is.size;
  spelled = is.spelled;
  stands = subst (λ (w : List ℕ). StandsAt bytes span.from (is.size ++ is.body ++ w)) right is.stands;
  ends = omega (arith, is.body_place, is.body_end, is.ends);
}

-- and a span that frames its body has that check word
word_of_frame : (bytes : List ℕ) (span : Span) (is : SpanAt bytes span) → FrameAt bytes span.from is.body span.end → is.word ≡ word_of (is.size ++ is.body)
word_of_frame bytes span is frame =
    let sizes = lengths_same bytes span.from (length is.body) (length is.body) is.size frame.size is.spelled frame.spelled (span_size bytes span is) (frame_size bytes span.from is.body span.end frame) in
    append_cancel_left (is.size ++ is.body) is.word (word_of (is.size ++ is.body))
    (stands_same bytes span.from (is.size ++ is.body ++ is.word) (is.size ++ is.body ++ word_of (is.size ++ is.body)) is.stands
    (subst (λ (s : List ℕ). StandsAt bytes span.from (s ++ is.body ++ word_of (s ++ is.body))) (sym sizes.1) frame.stands)
    (length-append (is.size ++ is.body) is.word ∙ ap (λ n. length (is.size ++ is.body) + n) is.two ∙ sym (length-append (is.size ++ is.body) (word_of (is.size ++ is.body)))))

-- the test of a check word is one of the word that stands there
test_of_word : (bytes : List ℕ) (span : Span) (is : SpanAt bytes span) → has_check_word bytes span ≡ (from_le_bytes w16 is.word == check_word CHECK_SEED (is.size ++ is.body))
test_of_word bytes span is =
    ap₂ (λ (w prefix : List ℕ). from_le_bytes w16 w == check_word CHECK_SEED prefix) (word_of_span bytes span is) (prefix_of_span bytes span is)

-- numbers that pass the test are one
test_same : (a b : ℕ) → (a == b) ≡ true → a ≡ b
test_same a b passed = grind (arith, nat_tests)

-- numbers that are one pass it
same_test : (a b : ℕ) → a ≡ b → (a == b) ≡ true
same_test a b same = grind (arith, nat_tests)

-- where the test holds, the span frames its body
pub framed_where : (bytes : List ℕ) (span : Span) → AreBytes bytes → SpanAt bytes span → has_check_word bytes span ≡ true → FrameAt bytes span.from (span_body bytes span) span.end
framed_where bytes span are is passed =
    let place : ℕ = span.from + length (is.size ++ is.body) in
    let word : AreBytes is.word = stands_bytes bytes place is.word are (stands_next bytes span.from (is.size ++ is.body) is.word is.stands) in
    let number : from_le_bytes w16 is.word ≡ check_word CHECK_SEED (is.size ++ is.body) = test_same _ _ (sym (test_of_word bytes span is) ∙ passed) in
    subst (λ (b : List ℕ). FrameAt bytes span.from b span.end) (sym (body_of_span bytes span is))
    (frame_of_word bytes span is (sym (bytes_of_16 is.word is.two word).1 ∙ ap (to_le_bytes w16) number))

-- and where the span frames its body, the test holds
pub tested_where : (bytes : List ℕ) (span : Span) → SpanAt bytes span → FrameAt bytes span.from (span_body bytes span) span.end → has_check_word bytes span ≡ true
tested_where bytes span is frame =
    let word = word_of_frame bytes span is (subst (λ (b : List ℕ). FrameAt bytes span.from b span.end) (body_of_span bytes span is) frame) in
    let prefix : List ℕ = is.size ++ is.body in
    test_of_word bytes span is
    ∙ same_test _ _ (ap (from_le_bytes w16) word ∙ (number_of_16 (check_word CHECK_SEED prefix) (check_word_fits CHECK_SEED prefix (omega arith))).0)

-- a test that doesn't hold fails
fails_where : (bytes : List ℕ) (span : Span) → AreBytes bytes → SpanAt bytes span → (FrameAt bytes span.from (span_body bytes span) span.end → ⊥) → (right : Bool) → has_check_word bytes span ≡ right → has_check_word bytes span ≡ false
fails_where bytes span are is unframed true passed = absurd (unframed (framed_where bytes span are is passed))
fails_where bytes span are is unframed false failed = failed

-- the span at a place whose check word is right is framed there
pub framed_at : (bytes : List ℕ) (place : ℕ) (span : Span) → AreBytes bytes → SpanAt bytes span → span.from ≡ place → has_check_word bytes span ≡ true → IsFramed bytes place span
framed_at bytes place span are is from passed = record {
  stands = is;
  from = from;
  frame = subst (λ n. FrameAt bytes n (span_body bytes span) span.end) from (framed_where bytes span are is passed);
}

-- what is reported of a span whose check word is right, by the head of its body
frame_of_head : (version : Version) (bytes : List ℕ) (place index : ℕ) (span : Span) → IsFramed bytes place span → (found : Option HeadParts) → ReportsHead version (bits (span_body bytes span)) found
    → ReportsFrame version bytes place index (head_tried place index span found)
frame_of_head version bytes place index span is (Some parts) found = (is, found)
frame_of_head version bytes place index span is None none = inr (inr (record { span = span; framed = is; headless = none; line = refl }))

-- a span whose check word is wrong refuses its frame
pub check_refused : {version : Version} (bytes : List ℕ) (place index : ℕ) (span : Span) (refusal : Refusal) → SpanAt bytes span → span.from ≡ place → has_check_word bytes span ≡ false
    → refusal ≡ frame_refusal 30 index place → ReportsFrame version bytes place index (Err refusal)
check_refused bytes place index span refusal is from failed line = inr (inl (record {
  span = span;
  stands = is;
  from = from;
  unframed = λ frame. passes_not (sym failed ∙ tested_where bytes span is (subst (λ n. FrameAt bytes n (span_body bytes span) span.end) (sym from) frame));
  line = line;
}))
  where
    passes_not : false ≡ true → ⊥
    passes_not same = cc

-- what is reported of a span, by its check word
frame_of_span : (version : Version) (bytes : List ℕ) (place index : ℕ) (span : Span) → AreBytes bytes → SpanAt bytes span → span.from ≡ place → (right : Bool) → has_check_word bytes span ≡ right
    → ReportsFrame version bytes place index (if not right then Err (frame_refusal 30 index place) else head_tried place index span (head_at version bytes span))
frame_of_span version bytes place index span are is from true passed =
    frame_of_head version bytes place index span (framed_at bytes place span are is from passed) (head_at version bytes span) (head_reported version (bits (span_body bytes span)))
frame_of_span version bytes place index span are is from false failed = check_refused bytes place index span _ is from failed refl

-- what is reported of what was tried of a span
frame_of_tried : (version : Version) (bytes : List ℕ) (place index : ℕ) (tried : Tried Span) → AreBytes bytes → ReportsSpan bytes place index tried → ReportsFrame version bytes place index (frame_checked version place index bytes tried)
frame_of_tried version bytes place index (Err refusal) are is = inl is
frame_of_tried version bytes place index (Ok span) are is = frame_of_span version bytes place index span are is.0 is.1 (has_check_word bytes span) refl

-- what is tried of a frame is what the input reports
pub frame_reported : (version : Version) (bytes : List ℕ) (place index : ℕ) → AreBytes bytes → ReportsFrame version bytes place index (tried_frame version place index bytes)
unfolding tried_frame
frame_reported version bytes place index are = frame_of_tried version bytes place index (tried_span place index bytes) are (span_reported bytes place index are)

-- what is checked of a span whose check word is right and of whose head this is reported
checked_head : (version : Version) (bytes : List ℕ) (place index : ℕ) (span : Span) (found : Option HeadParts) → IsFramed bytes place span → ReportsHead version (bits (span_body bytes span)) found
    → frame_checked version place index bytes (Ok span) ≡ head_tried place index span found
checked_head version bytes place index span found is reported =
    let passed : has_check_word bytes span ≡ true = tested_where bytes span is.stands (subst (λ n. FrameAt bytes n (span_body bytes span) span.end) (sym is.from) is.frame) in
    ap (λ right. if not right then Err (frame_refusal 30 index place) else head_tried place index span (head_at version bytes span)) passed
    ∙ ap (head_tried place index span) (head_only version (bits (span_body bytes span)) (head_at version bytes span) found (head_reported version (bits (span_body bytes span))) reported)

-- what the input reports of a frame is what is checked of its span
frame_checks : (version : Version) (bytes : List ℕ) (place index : ℕ) (tried : Tried (Span × HeadParts)) → AreBytes bytes → ReportsFrame version bytes place index tried
    → frame_checked version place index bytes (tried_span place index bytes) ≡ tried
frame_checks version bytes place index (Ok (span, parts)) are is =
    ap (frame_checked version place index bytes) ((tried_span_means bytes place index (Ok span) are).1 (is.0.stands, is.0.from))
    ∙ checked_head version bytes place index span (Some parts) is.0 is.1
frame_checks version bytes place index (Err refusal) are (inl is) = ap (frame_checked version place index bytes) ((tried_span_means bytes place index (Err refusal) are).1 is)
frame_checks version bytes place index (Err refusal) are (inr (inl is)) =
    let fails : has_check_word bytes is.span ≡ false =
    fails_where bytes is.span are is.stands (λ frame. is.unframed (subst (λ n. FrameAt bytes n (span_body bytes is.span) is.span.end) is.from frame)) (has_check_word bytes is.span) refl in
    ap (frame_checked version place index bytes) ((tried_span_means bytes place index (Ok is.span) are).1 (is.stands, is.from))
    ∙ ap (λ right. if not right then Err (frame_refusal 30 index place) else head_tried place index is.span (head_at version bytes is.span)) fails
    ∙ ap Err (sym is.line)
frame_checks version bytes place index (Err refusal) are (inr (inr is)) =
    ap (frame_checked version place index bytes) ((tried_span_means bytes place index (Ok is.span) are).1 (is.framed.stands, is.framed.from))
    ∙ checked_head version bytes place index is.span None is.framed is.headless
    ∙ ap Err (sym is.line)

-- so it is
pub tried_frame_means : FramesAreReported
unfolding tried_frame
tried_frame_means version bytes place index tried are = (
  (λ same. subst (ReportsFrame version bytes place index) same (frame_reported version bytes place index are)),
  frame_checks version bytes place index tried are,
)

-- the span of a frame
pub record SpanOf (bytes : List ℕ) (place : ℕ) (body : List ℕ) (end : ℕ) : Type 0 where
  pub span : Span
  pub framed : IsFramed bytes place span
  pub same_body : span_body bytes span ≡ body
  pub same_end : span.end ≡ end

-- every frame has a span
pub span_of_frame : (bytes : List ℕ) (place : ℕ) (body : List ℕ) (end : ℕ) → FrameAt bytes place body end → SpanOf bytes place body end
span_of_frame bytes place body end is =
    let span : Span = span_of place (length is.size) (length body) in
    let stands : SpanAt bytes span = record {
      size = is.size;
      body = body;
      word = word_of (is.size ++ body);
      spelled = is.spelled;
      two = refl;
      stands = is.stands;
      body_place = refl;
      body_end = refl;
      ends = refl;
    } in
    let same = body_of_span bytes span stands in
    let ends : end ≡ span.end = is.ends in
    record {
      span = span;
      framed = record {
        stands = stands;
        from = refl;
        frame = subst (λ (b : List ℕ). FrameAt bytes place b span.end) (sym same) (subst (FrameAt bytes place body) ends is);
      };
      same_body = same;
      same_end = sym ends;
    }

-- so it does
pub held_frame : FramesAreHeld
held_frame bytes place index own end are = (tried, held)
  where
    tried : FrameHolds bytes place own end → (found : Span × HeadParts) × (tried_frame (version_at bytes) place index bytes ≡ Ok found) × (found.0.end ≡ end) × (found.1.own ≡ own)
    tried (body, number, frame, begins) =
        let is = span_of_frame bytes place body end frame in
        let parts : HeadParts = record { number = number; size = begins.size; own = own } in
        let has = subst (λ (b : List ℕ). HasHead (version_at bytes) (bits b) parts) (sym is.same_body) (head_begins (bits body) number own begins) in
        ((is.span, parts), (tried_frame_means (version_at bytes) bytes place index (Ok (is.span, parts)) are).1 (is.framed, has), is.same_end, refl)

    held : (found : Span × HeadParts) × (tried_frame (version_at bytes) place index bytes ≡ Ok found) × (found.0.end ≡ end) × (found.1.own ≡ own) → FrameHolds bytes place own end
    held ((span, parts), same, ends, owns) =
        let is = (tried_frame_means (version_at bytes) bytes place index (Ok (span, parts)) are).0 same in
        let body : List ℕ = span_body bytes span in
        (body, parts.number, subst (FrameAt bytes place body) ends is.0.frame, subst (BeginsWithHead (version_at bytes) (bits body) parts.number) owns (begins_head (bits body) parts is.1))
