-- What the tried frame of a place means: the span or the frame that stands there, or why there is none. A rule of this project, over the frames of the Open Design Specification, "R13 to R2000 file layout, object data".
use Rattle.std.specs.Prelude.{◌≡◌, ℕ, ◌+◌, ◌<◌, ◌≤◌, ◌⊎◌, List, length, Ok, Err}
use Rattle.dwg_base.specs.declared.version.Version.{Version}
use Rattle.dwg_base.specs.Bytes.{StandsAt}
use Rattle.dwg_base.specs.Refusals.{Tried}
use Rattle.dwg_base.specs.Refusal.{Refusal}
use Rattle.dwg_bits.specs.Bits.{bits}
use Rattle.dwg_grammar.specs.ModularCodes.{ms}
use Rattle.dwg_object.specs.declared.span.Span.{Span}
use Rattle.dwg_object.specs.Objects.{HeadParts}
use Rattle.dwg_object.specs.Heads.{HasHead}
use Rattle.dwg_object.specs.Frames.{FrameAt, SpanAt}
use Rattle.dwg_object.specs.FrameLines.{frame_refusal, span_body}

-- whatever length is spelled at a place, its frame passes the end of the input; so where none is spelled
abbrev pub PassesEnd : List ℕ → ℕ → Type 0
PassesEnd bytes place = (long : ℕ) (size : List ℕ) → ms.Spells long size → StandsAt bytes place size → length bytes < place + length size + long + 2

-- why no span stands at a place: the place is after the input, or no frame in the input begins there
abbrev pub SpanRefused : List ℕ → ℕ → ℕ → Refusal → Type 0
SpanRefused bytes place index refusal =
    ((length bytes ≤ place) × (refusal ≡ frame_refusal 27 index place))
    ⊎ ((place < length bytes) × PassesEnd bytes place × (refusal ≡ frame_refusal 28 index place))

-- what was tried of a span: the one that stands at the place, or why none does
abbrev pub ReportsSpan : List ℕ → ℕ → ℕ → Tried Span → Type 0
ReportsSpan bytes place index (Ok span) = SpanAt bytes span × (span.from ≡ place)
ReportsSpan bytes place index (Err refusal) = SpanRefused bytes place index refusal

-- the body of the span at a place is framed there
pub record IsFramed (bytes : List ℕ) (place : ℕ) (span : Span) : Type 0 where
  pub stands : SpanAt bytes span
  pub from : span.from ≡ place
  pub frame : FrameAt bytes place (span_body bytes span) span.end

-- a span stands at a place, and its check word isn't that of its length and its body
pub record CheckRefused (bytes : List ℕ) (place index : ℕ) (refusal : Refusal) : Type 0 where
  pub span : Span
  pub stands : SpanAt bytes span
  pub from : span.from ≡ place
  pub unframed : FrameAt bytes place (span_body bytes span) span.end → ⊥
  pub line : refusal ≡ frame_refusal 30 index place

-- a frame stands at a place, and its body has no head of a version
pub record HeadRefused (version : Version) (bytes : List ℕ) (place index : ℕ) (refusal : Refusal) : Type 0 where
  pub span : Span
  pub framed : IsFramed bytes place span
  pub headless : (parts : HeadParts) → HasHead version (bits (span_body bytes span)) parts → ⊥
  pub line : refusal ≡ frame_refusal 31 index place

-- what was tried of a frame: its span and its head, or why there is none
abbrev pub ReportsFrame : Version → List ℕ → ℕ → ℕ → Tried (Span × HeadParts) → Type 0
ReportsFrame version bytes place index (Ok found) = IsFramed bytes place found.0 × HasHead version (bits (span_body bytes found.0)) found.1
ReportsFrame version bytes place index (Err refusal) =
    SpanRefused bytes place index refusal ⊎ (CheckRefused bytes place index refusal ⊎ HeadRefused version bytes place index refusal)
