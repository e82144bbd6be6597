-- Which pair of a map is the first whose frame fails a line, said without going along the map. A rule of this project, over the frames of the Open Design Specification, "R13 to R2000 file layout, object data".
use Rattle.std.specs.Prelude.{◌≡◌, ◌⊎◌, ◌<◌, ◌↔◌, ℕ, List, [], ◌∷◌, ◌++◌, length, map, AllPairs, Some}
use Rattle.dwg_base.specs.Versions.{version_at}
use Rattle.std.specs.List.{AllByRecursion}
use Rattle.dwg_base.specs.Bytes.{AreBytes}
use Rattle.dwg_base.specs.Refusal.{Refusal}
use Rattle.dwg_bits.specs.Bits.{bits}
use Rattle.dwg_classes.specs.declared.class.Class.{Class}
use Rattle.dwg_object.specs.declared.span.Span.{Span}
use Rattle.dwg_object.specs.Objects.{HeadParts}
use Rattle.dwg_object.specs.Heads.{HasHead}
use Rattle.dwg_object.specs.Frames.{SpanAt}
use Rattle.dwg_object.specs.FrameCauses.{SpanRefused, IsFramed, CheckRefused, HeadRefused}
use Rattle.dwg_object.specs.FrameLines.{frame_refusal, span_body}
use Rattle.dwg_objmap.specs.declared.pair.Pair.{Pair}
use Rattle.dwg_objmap.specs.Pages.{MapOf}
use Rattle.dwg_sections.specs.declared.header.FileHeader.{FileHeader}
use Rattle.dwg_sections.specs.FileHeader.{BeginsWithHeader}
use Rattle.dwg_sections.specs.HeaderLines.{place_of}
use Rattle.dwg_file.specs.FileLines.{frames_row}
use Rattle.dwg_file.specs.Spelled.{PairFrame, IsFrameOfPair, AreApart}

-- a span shares a byte with one of the frames
abbrev pub SharesByte : List PairFrame → Span → Type 0
SharesByte [] span = ⊥
SharesByte (frame ∷ frames) span = ((frame.pair.place < span.end) × (span.from < frame.end)) ⊎ SharesByte frames span

-- a span stands at the place of a pair, and shares a byte with the frame of an earlier pair
pub record Overlaps (bytes : List ℕ) (frames : List PairFrame) (pair : Pair) : Type 0 where
  pub span : Span
  pub stands : SpanAt bytes span
  pub from : span.from ≡ pair.place
  pub shares : SharesByte frames span

-- a frame stands at the place of a pair, and its body's head has another handle
pub record HandleRefused (bytes : List ℕ) (pair : Pair) (index : ℕ) (refusal : Refusal) : Type 0 where
  pub span : Span
  pub framed : IsFramed bytes pair.place span
  pub parts : HeadParts
  pub head : HasHead (version_at bytes) (bits (span_body bytes span)) parts
  pub other : parts.own ≡ pair.handle → ⊥
  pub line : refusal ≡ frame_refusal 32 index pair.place

-- after the frames of earlier pairs the pair's fails, and this is the first of its lines that does: no span stands there, or one that overlaps; or it doesn't and its check word, its head or its handle fails
abbrev pub PairRefused : List ℕ → List PairFrame → ℕ → Pair → Refusal → Type 0
PairRefused bytes frames index pair refusal =
    SpanRefused bytes pair.place index refusal
    ⊎ ((Overlaps bytes frames pair × (refusal ≡ frame_refusal 29 index pair.place))
    ⊎ ((Overlaps bytes frames pair → ⊥)
    × (CheckRefused bytes pair.place index refusal ⊎ (HeadRefused (version_at bytes) bytes pair.place index refusal ⊎ HandleRefused bytes pair index refusal))))

-- the first pair of a map whose frame fails a line: frames stand at the places of all pairs before it, with the pairs' handles and without a common byte
pub record FramesRefused (classes : List Class) (bytes : List ℕ) (pairs : List Pair) (refusal : Refusal) : Type 0 where
  pub frames : List PairFrame
  pub stand : AllByRecursion (IsFrameOfPair classes bytes) frames
  pub apart : AllPairs AreApart frames
  pub pair : Pair
  pub after : List Pair
  pub whole : pairs ≡ map (λ (frame : PairFrame). frame.pair) frames ++ pair ∷ after
  pub fails : PairRefused bytes frames (length frames) pair refusal

-- the lines on frames refuse an input with a header and a map exactly where a pair is the first whose frame fails, and as it does
abbrev pub FramesAreRefused : Type 0
FramesAreRefused =
    (classes : List Class) (bytes : List ℕ) (header : FileHeader) (place : ℕ) (pairs : List Pair) (refusal : Refusal) → AreBytes bytes → BeginsWithHeader bytes header
    → place_of 2 header.locators ≡ Some place → MapOf bytes place pairs
    → (frames_row bytes ≡ Some refusal) ↔ FramesRefused classes bytes pairs refusal
