-- The frame at a place, by its span, its check word and its body.
use Rattle.std.proofs.Common.{◌≡◌, refl, sym, ap, subst, ℕ, ◌^◌, ◌<◌, List, length, get_or, inr}
use Rattle.dwg_base.specs.declared.version.Version.{Version}
use Rattle.std.specs.Prelude.{Ok, Err}
use Rattle.dwg_base.proofs.ByteLists.{are_bytes}
use Rattle.dwg_base.specs.Refusals.{Tried}
use Rattle.dwg_base.specs.Refusal.{Refusal}
use Rattle.dwg_bits.specs.Bits.{bits}
use Rattle.dwg_classes.specs.declared.class.Class.{Class}
use Rattle.dwg_grammar.proofs.ModularLemmas.{ms_is_code, ms_below}
use Rattle.dwg_object.specs.declared.object.Object.{Object}
use Rattle.dwg_object.specs.declared.span.Span.{Span}
use Rattle.dwg_object.specs.Forms.{FormOf}
use Rattle.dwg_object.specs.Heads.{HasHead}
use Rattle.dwg_object.proofs.FormLaws.{head_of_form}
use Rattle.dwg_object.specs.FoundFrames.{IsTried}
use Rattle.dwg_object.specs.FrameCauses.{IsFramed, ReportsFrame}
use Rattle.dwg_object.proofs.FrameLaws.{body_of_span, tried_frame_means}
use Rattle.dwg_object.specs.FrameLines.{frame_refusal, span_body, frame_checked, tried_span, tried_frame}
use Rattle.dwg_object.specs.Frames.{FrameAt, SpanAt}
use Rattle.dwg_object.specs.Objects.{HeadParts, ObjectValue, value_of}

-- the body of a span is below 2^60 bytes
pub span_small : (bytes : List ℕ) (span : Span) → SpanAt bytes span → length (span_body bytes span) < 2 ^ 60
span_small bytes span is =
    subst (λ (b : List ℕ). length b < 2 ^ 60) (sym (body_of_span bytes span is)) (ms_below (length is.body) (ms_is_code.value is.size (length is.body) is.spelled))

-- a span that is refused refuses its frame
pub refused_span : (version : Version) (bytes : List ℕ) (place index : ℕ) (refusal : Refusal) → tried_span place index bytes ≡ Err refusal → tried_frame version place index bytes ≡ Err refusal
unfolding tried_frame
refused_span version bytes place index refusal tried = ap (frame_checked version place index bytes) tried

-- what the input reports of a frame is what is tried there
pub reported_frame : (version : Version) (bytes : List ℕ) (place index : ℕ) (tried : Tried (Span × HeadParts)) → ((i : ℕ) → get_or bytes i 0 < 256) → ReportsFrame version bytes place index tried → tried_frame version place index bytes ≡ tried
reported_frame version bytes place index tried small reports = (tried_frame_means version bytes place index tried (are_bytes bytes small)).1 reports

-- a body without a head refuses its frame
pub head_refused : {version : Version} (bytes : List ℕ) (index : ℕ) (span : Span) (body : List ℕ) (refusal : Refusal) → IsFramed bytes span.from span → body ≡ span_body bytes span
    → ((parts : HeadParts) → HasHead version (bits body) parts → ⊥) → refusal ≡ frame_refusal 31 index span.from → ReportsFrame version bytes span.from index (Err refusal)
head_refused {version} bytes index span body refusal framed same none line =
    inr (inr (record { span = span; framed = framed; headless = λ parts is. none parts (subst (λ (b : List ℕ). HasHead version (bits b) parts) (sym same) is); line = line }))

-- the object of a body that is framed is found
pub found_frame : (version : Version) (bytes : List ℕ) (place : ℕ) (span : Span) (body : List ℕ) (classes : List Class) (value : ObjectValue) → IsFramed bytes place span → body ≡ span_body bytes span
    → FormOf version classes body value → (whole : List ℕ) × FrameAt bytes place whole span.end × FormOf version classes whole value
found_frame version bytes place span body classes value framed same form = (span_body bytes span, framed.frame, subst (λ (b : List ℕ). FormOf version classes b value) same form)

-- and it is what was tried
pub found_tried : (version : Version) (bytes : List ℕ) (index : ℕ) (span : Span) (body : List ℕ) (classes : List Class) (object : Object) → ((i : ℕ) → get_or bytes i 0 < 256) → IsFramed bytes span.from span
    → body ≡ span_body bytes span → FormOf version classes body (value_of object) → IsTried (record { object = object; end = span.end }) (tried_frame version span.from index bytes)
found_tried version bytes index span body classes object small framed same form =
    let has = head_of_form version classes body (value_of object) form in
    record {
      span = span;
      parts = has.0;
      tries = reported_frame version bytes span.from index (Ok (span, has.0)) small (framed, subst (λ (b : List ℕ). HasHead version (bits b) has.0) same has.1);
      same_end = refl;
      same_number = has.2;
      same_own = has.3;
    }
