-- The span that is tried at a place is the one that stands there.
use Rattle.std.proofs.Common.{◌≡◌, ℕ, List}
use Rattle.std.specs.Prelude.{◌↔◌}
use Rattle.dwg_base.specs.Bytes.{AreBytes}
use Rattle.dwg_base.specs.Refusals.{Tried}
use Rattle.dwg_object.specs.declared.span.Span.{Span}
use Rattle.dwg_object.specs.FrameLines.{tried_span}
use Rattle.dwg_object.specs.FrameCauses.{ReportsSpan}

-- what is tried of a span is what the input reports, and nothing else
abbrev pub SpansAreReported : Type 0
SpansAreReported =
    (bytes : List ℕ) (place index : ℕ) (tried : Tried Span) → AreBytes bytes → (tried_span place index bytes ≡ tried) ↔ ReportsSpan bytes place index tried
