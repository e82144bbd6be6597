-- The span at a place, by the length that is read there.
use Rattle.std.proofs.Common.{◌≡◌, sym, ◌∙◌, ap, ℕ, ◌+◌, ◌<◌, ◌≤◌, false, List, ◌++◌, length, take, drop, get_or, Some, None, inr, arith}
use Rattle.std.specs.Prelude.{nat_lt, not, Err, if◌then◌else◌}
use Rattle.std.proofs.lemmas.Bool.Decides.{nat_tests}
use Rattle.std.proofs.lemmas.List.{length-take-le, take-append-drop}
use Rattle.dwg_base.proofs.ByteLists.{are_bytes}
use Rattle.dwg_base.specs.Refusals.{Tried}
use Rattle.dwg_base.specs.Refusal.{Refusal}
use Rattle.dwg_grammar.specs.Grammar.{ReadsPrefix}
use Rattle.dwg_grammar.specs.ModularCodes.{ms}
use Rattle.dwg_object.specs.declared.span.Span.{Span}
use Rattle.dwg_object.specs.Frames.{SpanAt}
use Rattle.dwg_object.specs.FrameLines.{frame_refusal, span_of, span_parsed, tried_span}
use Rattle.dwg_object.specs.FrameCauses.{ReportsSpan}
use Rattle.dwg_object.proofs.SpanLaws.{all_pass, span_found, tried_span_means}
use Rattle.dwg_object.proofs.StandingLemmas.{drop_stands, stands_drop}

-- a place after the input is refused
pub span_after : (bytes : List ℕ) (place index : ℕ) → length bytes ≤ place → tried_span place index bytes ≡ Err (frame_refusal 27 index place)
unfolding tried_span
span_after bytes place index after =
    let outside : nat_lt place (length bytes) ≡ false = grind (arith, nat_tests) in
    ap (λ inside. if not inside then Err (frame_refusal 27 index place)
    else span_parsed place index (length bytes) (length (drop place bytes)) (ms.parse (drop place bytes))) outside

-- what the input reports of a place is what is tried there
pub reported_tried : (bytes : List ℕ) (place index : ℕ) (tried : Tried Span) → ((i : ℕ) → get_or bytes i 0 < 256) → ReportsSpan bytes place index tried → tried ≡ tried_span place index bytes
reported_tried bytes place index tried small reports = sym ((tried_span_means bytes place index tried (are_bytes bytes small)).1 reports)

-- a place where no length is read is refused
pub read_unspelled : (bytes after : List ℕ) (place index : ℕ) (refusal : Refusal) → refusal ≡ frame_refusal 28 index place → place < length bytes → after ≡ drop place bytes
    → ReadsPrefix ms None after → ReportsSpan bytes place index (Err refusal)
read_unspelled bytes after place index refusal line within is none = inr (
  within,
  (λ long size spelled stands. absurd (none (long, size, stands.after, spelled, is ∙ drop_stands bytes place size stands))),
  line,
)

-- so is one whose frame passes the end
pub read_passes : (bytes after : List ℕ) (place index long wide : ℕ) (refusal : Refusal) → refusal ≡ frame_refusal 28 index place → place < length bytes → after ≡ drop place bytes
    → ReadsPrefix ms (Some (long, wide)) after → length bytes < place + wide + long + 2 → ReportsSpan bytes place index (Err refusal)
read_passes bytes after place index long wide refusal line within is found past =
    let whole : drop place bytes ≡ take wide after ++ drop wide after = sym is ∙ sym (take-append-drop wide after) in
    let stands = stands_drop bytes place (take wide after) (drop wide after) (omega arith) whole in
    inr (within, all_pass bytes place long wide (take wide after) found.1 stands (sym (length-take-le wide after found.0)) past, line)

-- any other has its span
pub read_lies : (bytes after : List ℕ) (place long wide : ℕ) → place < length bytes → after ≡ drop place bytes → ReadsPrefix ms (Some (long, wide)) after
    → place + wide + long + 2 ≤ length bytes → SpanAt bytes (span_of place wide long)
read_lies bytes after place long wide within is found inside =
    span_found bytes place long wide (take wide after) (drop wide after) within found.1 (sym is ∙ sym (take-append-drop wide after)) (sym (length-take-le wide after found.0)) inside
