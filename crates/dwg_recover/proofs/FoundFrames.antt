-- What is found is what stands: a pair has a candidate exactly where a frame with its handle stands at its place, and the scan finds a frame exactly where one is read with its common part.
use Rattle.std.proofs.Common.{◌≡◌, refl, sym, ◌∙◌, ap, ap₂, subst, ℕ, ◌<◌, Bool, true, false, List, Option, Some, None, arith}
use Rattle.dwg_base.specs.Versions.{version_at}
use Rattle.std.specs.Prelude.{◌&&◌, ◌==◌, Ok, Err, not, nat_lt, option_map, if◌then◌else◌}
use Rattle.std.specs.Option.{option_and_then}
use Rattle.std.specs.Result.{result_ok}
use Rattle.std.proofs.lemmas.Bool.Decides.{nat_tests}
use Rattle.std.proofs.lemmas.Option.{same_Some}
use Rattle.dwg_base.specs.Refusals.{Tried}
use Rattle.dwg_bits.specs.Bits.{bits}
use Rattle.dwg_classes.specs.declared.class.Class.{Class}
use Rattle.dwg_object.specs.declared.span.Span.{Span}
use Rattle.dwg_object.proofs.FormLaws.{form_at, form_is_at, forms_same}
use Rattle.dwg_object.specs.Forms.{FormOf}
use Rattle.dwg_object.specs.Heads.{BeginsWithHead, HasHead}
use Rattle.dwg_object.specs.FrameLaws.{FramesAreHeld, FramesAreReported}
use Rattle.dwg_object.proofs.FrameLaws.{span_of_frame}
use Rattle.dwg_object.specs.FrameLines.{frame_checked, frame_refusal, has_check_word, head_at, head_tried, span_body, tried_frame, tried_span}
use Rattle.dwg_object.specs.Frames.{FrameAt, FrameHolds}
use Rattle.dwg_object.proofs.HeadLemmas.{begins_head, head_begins}
use Rattle.dwg_object.specs.Objects.{HeadParts}
use Rattle.dwg_objmap.specs.declared.pair.Pair.{Pair}
use Rattle.dwg_recover.specs.declared.frame.Frame.{Frame}
use Rattle.dwg_recover.specs.Frames.{candidate, candidate_of, has_common_part, own_of_span, scanned, scanned_of, span_found}
use Rattle.dwg_recover.specs.FoundFrames.{CandidatesHold, IsReadAt, ScannedAreRead, frame_of, scanned_frame}

-- a candidate is the frame of its pair, up to its end
pub candidate_is : (bytes : List ℕ) (number : ℕ) (pair : Pair) (frame : Frame) → candidate bytes number pair ≡ Some frame → frame ≡ frame_of number pair frame.end
candidate_is bytes number pair frame is = of_span (span_found bytes pair.place) is
  where
    of_test : (span : Span) (test : Bool) → (if test then Some (frame_of number pair span.end) else None) ≡ Some frame → frame ≡ frame_of number pair frame.end
    of_test span true same = subst (λ (one : Frame). one ≡ frame_of number pair one.end) (same_Some _ _ same) refl
    of_test span false same = absurd cc

    of_own : (span : Span) (own : Option ℕ) → option_and_then (candidate_of number pair span) own ≡ Some frame → frame ≡ frame_of number pair frame.end
    of_own span None same = absurd cc
    of_own span (Some own) same = of_test span (nat_lt 0 pair.handle && (own == pair.handle)) same

    of_span : (span : Option Span) → option_and_then (λ (span : Span). option_and_then (candidate_of number pair span) (own_of_span bytes span)) span ≡ Some frame → frame ≡ frame_of number pair frame.end
    of_span None same = absurd cc
    of_span (Some span) same = of_own span (own_of_span bytes span) same

-- what is tried of the frame at a place
record IsTried (place end own : ℕ) (bytes : List ℕ) (tried : Tried Span) : Type 0 where
  found : Span × HeadParts
  is : frame_checked (version_at bytes) place 0 bytes tried ≡ Ok found
  ends : found.0.end ≡ end
  has : found.1.own ≡ own

-- the frame of a pair, of what was tried of its span
abbrev of_span : List ℕ → ℕ → Pair → Option Span → Option Frame
of_span bytes number pair found = option_and_then (λ (span : Span). option_and_then (candidate_of number pair span) (own_of_span bytes span)) found

-- what is tried so is a candidate
tried_candidate : (bytes : List ℕ) (number : ℕ) (pair : Pair) (end : ℕ) → 0 < pair.handle → (tried : Tried Span) → IsTried pair.place end pair.handle bytes tried
    → of_span bytes number pair (result_ok tried) ≡ Some (frame_of number pair end)
unfolding own_of_span
tried_candidate bytes number pair end some (Err refusal) is = absurd (none is.is)
  where
    none : {found : Span × HeadParts} → frame_checked (version_at bytes) pair.place 0 bytes (Err refusal) ≡ Ok found → ⊥
    none same = absurd cc
tried_candidate bytes number pair end some (Ok span) is = of_test (has_check_word bytes span) (head_at (version_at bytes) bytes span) is.found is.is is.ends is.has
  where
    of_test : (right : Bool) (head : Option HeadParts) (found : Span × HeadParts) → (if not right then Err (frame_refusal 30 0 pair.place) else head_tried pair.place 0 span head) ≡ Ok found
        → found.0.end ≡ end → found.1.own ≡ pair.handle
        → option_and_then (candidate_of number pair span) (if right then option_map (λ (parts : HeadParts). parts.own) head else None) ≡ Some (frame_of number pair end)
    of_test false head found same ends has = absurd cc
    of_test true None found same ends has = absurd cc
    of_test true (Some parts) found same ends has =
        let span_ends : span.end ≡ end = cc in
        let own : parts.own ≡ pair.handle = cc in
        let test : (nat_lt 0 pair.handle && (parts.own == pair.handle)) ≡ true = grind (arith, nat_tests, some, own) in
        ap (λ passes. if passes then Some (frame_of number pair span.end) else None) test ∙ ap (λ place. Some (frame_of number pair place)) span_ends

-- and a candidate is tried so
candidate_tried : (bytes : List ℕ) (number : ℕ) (pair : Pair) (end : ℕ) (tried : Tried Span) → of_span bytes number pair (result_ok tried) ≡ Some (frame_of number pair end)
    → (0 < pair.handle) × IsTried pair.place end pair.handle bytes tried
unfolding own_of_span
candidate_tried bytes number pair end (Err refusal) is = absurd cc
candidate_tried bytes number pair end (Ok span) is = of_test (has_check_word bytes span) refl (head_at (version_at bytes) bytes span) refl is
  where
    of_pass : (parts : HeadParts) (passes : Bool) → (nat_lt 0 pair.handle && (parts.own == pair.handle)) ≡ passes
        → (if passes then Some (frame_of number pair span.end) else None) ≡ Some (frame_of number pair end) → (0 < pair.handle) × (span.end ≡ end) × (parts.own ≡ pair.handle)
    of_pass parts true known same = (grind (arith, nat_tests, known), ap (λ (frame : Frame). frame.end) (same_Some _ _ same), grind (arith, nat_tests, known))
    of_pass parts false known same = absurd cc

    of_test : (right : Bool) → has_check_word bytes span ≡ right → (head : Option HeadParts) → head_at (version_at bytes) bytes span ≡ head
        → option_and_then (candidate_of number pair span) (if right then option_map (λ (parts : HeadParts). parts.own) head else None) ≡ Some (frame_of number pair end)
        → (0 < pair.handle) × IsTried pair.place end pair.handle bytes (Ok span)
    of_test false right head reported same = absurd cc
    of_test true right None reported same = absurd cc
    of_test true right (Some parts) reported same =
        let passed = of_pass parts (nat_lt 0 pair.handle && (parts.own == pair.handle)) refl same in (
          passed.0,
          record {
            found = (span, parts);
            is = ap (λ test. if not test then Err (frame_refusal 30 0 pair.place) else head_tried pair.place 0 span (head_at (version_at bytes) bytes span)) right ∙ ap (head_tried pair.place 0 span) reported;
            ends = passed.1;
            has = passed.2;
          },
        )

-- so a candidate is exactly a frame that holds
pub candidates_hold : FramesAreHeld → CandidatesHold
unfolding span_found tried_frame
candidates_hold held bytes number pair end are = (to, from)
  where
    to : (0 < pair.handle) × FrameHolds bytes pair.place pair.handle end → candidate bytes number pair ≡ Some (frame_of number pair end)
    to (some, holds) =
        let tried = (held bytes pair.place 0 pair.handle end are).0 holds in
        tried_candidate bytes number pair end some (tried_span pair.place 0 bytes) (record { found = tried.0; is = tried.1; ends = tried.2; has = tried.3 })

    from : candidate bytes number pair ≡ Some (frame_of number pair end) → (0 < pair.handle) × FrameHolds bytes pair.place pair.handle end
    from is =
        let tried = candidate_tried bytes number pair end (tried_span pair.place 0 bytes) is in
        (tried.0, (held bytes pair.place 0 pair.handle end are).1 (tried.1.found, tried.1.is, tried.1.ends, tried.1.has))

-- the frame that is found, of what was tried of its span
abbrev scanned_span : List Class → List ℕ → ℕ → Option Span → Option Frame
scanned_span classes bytes place found = option_and_then (λ (span : Span). option_and_then (scanned_of classes bytes place span) (own_of_span bytes span)) found

-- what is tried so is found, where it is read with its common part
tried_scanned : (classes : List Class) (bytes : List ℕ) (place end own : ℕ) (tried : Tried Span) (is : IsTried place end own bytes tried)
    → has_common_part (form_at (version_at bytes) classes (span_body bytes is.found.0)) ≡ true → scanned_span classes bytes place (result_ok tried) ≡ Some (scanned_frame place end own)
unfolding own_of_span
tried_scanned classes bytes place end own (Err refusal) is common = absurd (none is.is)
  where
    none : {found : Span × HeadParts} → frame_checked (version_at bytes) place 0 bytes (Err refusal) ≡ Ok found → ⊥
    none same = absurd cc
tried_scanned classes bytes place end own (Ok span) is common = of_test (has_check_word bytes span) (head_at (version_at bytes) bytes span) is.found is.is is.ends is.has common
  where
    of_test : (right : Bool) (head : Option HeadParts) (found : Span × HeadParts) → (if not right then Err (frame_refusal 30 0 place) else head_tried place 0 span head) ≡ Ok found
        → found.0.end ≡ end → found.1.own ≡ own → has_common_part (form_at (version_at bytes) classes (span_body bytes found.0)) ≡ true
        → option_and_then (scanned_of classes bytes place span) (if right then option_map (λ (parts : HeadParts). parts.own) head else None) ≡ Some (scanned_frame place end own)
    of_test false head found same ends has with_common = absurd cc
    of_test true None found same ends has with_common = absurd cc
    of_test true (Some parts) found same ends has with_common =
        let span_ends : span.end ≡ end = cc in
        let own_is : parts.own ≡ own = cc in
        let is_span : span ≡ found.0 = cc in
        let test : has_common_part (form_at (version_at bytes) classes (span_body bytes span)) ≡ true = ap (λ (one : Span). has_common_part (form_at (version_at bytes) classes (span_body bytes one))) is_span ∙ with_common in
        ap (λ passes. if passes then Some (scanned_frame place span.end parts.own) else None) test ∙ ap₂ (λ to handle. Some (scanned_frame place to handle)) span_ends own_is

-- what is tried of a frame that is found, with its common part
record IsScanned (classes : List Class) (bytes : List ℕ) (place end own : ℕ) (tried : Tried Span) : Type 0 where
  is : IsTried place end own bytes tried
  common : has_common_part (form_at (version_at bytes) classes (span_body bytes is.found.0)) ≡ true

-- and what is found is tried so
scanned_tried : (classes : List Class) (bytes : List ℕ) (place end own : ℕ) (tried : Tried Span) → scanned_span classes bytes place (result_ok tried) ≡ Some (scanned_frame place end own)
    → IsScanned classes bytes place end own tried
unfolding own_of_span
scanned_tried classes bytes place end own (Err refusal) is = absurd cc
scanned_tried classes bytes place end own (Ok span) is = of_test (has_check_word bytes span) refl (head_at (version_at bytes) bytes span) refl is
  where
    of_pass : (parts : HeadParts) (passes : Bool) → (if passes then Some (scanned_frame place span.end parts.own) else None) ≡ Some (scanned_frame place end own)
        → (passes ≡ true) × (span.end ≡ end) × (parts.own ≡ own)
    of_pass parts true same = (refl, ap (λ (frame : Frame). frame.end) (same_Some _ _ same), ap (λ (frame : Frame). frame.handle) (same_Some _ _ same))
    of_pass parts false same = absurd cc

    of_test : (right : Bool) → has_check_word bytes span ≡ right → (head : Option HeadParts) → head_at (version_at bytes) bytes span ≡ head
        → option_and_then (scanned_of classes bytes place span) (if right then option_map (λ (parts : HeadParts). parts.own) head else None) ≡ Some (scanned_frame place end own)
        → IsScanned classes bytes place end own (Ok span)
    of_test false right head reported same = absurd cc
    of_test true right None reported same = absurd cc
    of_test true right (Some parts) reported same =
        let passed = of_pass parts (has_common_part (form_at (version_at bytes) classes (span_body bytes span))) same in
        record {
          is = record {
            found = (span, parts);
            is = ap (λ test. if not test then Err (frame_refusal 30 0 place) else head_tried place 0 span (head_at (version_at bytes) bytes span)) right ∙ ap (head_tried place 0 span) reported;
            ends = passed.1;
            has = passed.2;
          };
          common = passed.0;
        }

-- so the scan finds exactly the frames that are read with their common part
pub scanned_are_read : FramesAreReported → ScannedAreRead
unfolding span_found tried_frame
scanned_are_read reported classes bytes place end own are = (to, from)
  where
    to : IsReadAt classes bytes place end own → scanned classes bytes place ≡ Some (scanned_frame place end own)
    to read =
        let standing = span_of_frame bytes place read.body end read.frame in
        let parts : HeadParts = record { number = read.number; size = read.head.size; own = own } in
        let has : HasHead (version_at bytes) (bits (span_body bytes standing.span)) parts = subst (λ (b : List ℕ). HasHead (version_at bytes) (bits b) parts) (sym standing.same_body) (head_begins (bits read.body) read.number own read.head) in
        let form : FormOf (version_at bytes) classes (span_body bytes standing.span) read.object = subst (λ (b : List ℕ). FormOf (version_at bytes) classes b read.object) (sym standing.same_body) read.form in
        let one : form_at (version_at bytes) classes (span_body bytes standing.span) ≡ read.object = forms_same (version_at bytes) classes (span_body bytes standing.span) _ _ (form_is_at (version_at bytes) classes (span_body bytes standing.span) parts has) form in
        tried_scanned classes bytes place end own (tried_span place 0 bytes)
        (record { found = (standing.span, parts); is = (reported (version_at bytes) bytes place 0 (Ok (standing.span, parts)) are).1 (standing.framed, has); ends = standing.same_end; has = refl })
        (ap has_common_part one ∙ read.common)

    from : scanned classes bytes place ≡ Some (scanned_frame place end own) → IsReadAt classes bytes place end own
    from is =
        let scan = scanned_tried classes bytes place end own (tried_span place 0 bytes) is in
        let span : Span = scan.is.found.0 in
        let parts : HeadParts = scan.is.found.1 in
        let reports = (reported (version_at bytes) bytes place 0 (Ok (span, parts)) are).0 scan.is.is in
        record {
          body = span_body bytes span;
          number = parts.number;
          object = form_at (version_at bytes) classes (span_body bytes span);
          frame = subst (FrameAt bytes place (span_body bytes span)) scan.is.ends reports.0.frame;
          head = subst (BeginsWithHead (version_at bytes) (bits (span_body bytes span)) parts.number) scan.is.has (begins_head (bits (span_body bytes span)) parts reports.1);
          form = form_is_at (version_at bytes) classes (span_body bytes span) parts reports.1;
          common = scan.common;
        }
