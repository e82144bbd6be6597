-- Frames of objects: a length, a body, a check word (Open Design Specification, "R13 to R2000 file layout, object data").
use Rattle.std.specs.Prelude.{◌≡◌, ℕ, ◌+◌, List, ◌++◌, length}
use Rattle.dwg_base.specs.declared.version.Version.{Version}
use Rattle.std.specs.Int.{w16, to_le_bytes}
use Rattle.dwg_base.specs.Bytes.{StandsAt}
use Rattle.dwg_bits.specs.Bits.{bits}
use Rattle.dwg_check.specs.CheckWord.{CHECK_SEED, check_word}
use Rattle.dwg_grammar.specs.ModularCodes.{ms}
use Rattle.dwg_object.specs.declared.span.Span.{Span}
use Rattle.dwg_object.specs.Heads.{BeginsWithHead}
use Rattle.dwg_object.specs.Objects.{ObjectValue}
use Rattle.dwg_base.specs.Versions.{version_at}
use Rattle.dwg_object.specs.Written.{body_bytes}

-- what a frame's check word is over, and the check word, its least significant byte first: a spelling of the body's length, and the body
abbrev pub framed_body : List ℕ → List ℕ → List ℕ
framed_body size body = size ++ body ++ to_le_bytes w16 (check_word CHECK_SEED (size ++ body))

-- a frame of this body stands at a place of the input, and ends at another: MS length of the body in bytes, the body, RS check word
pub record FrameAt (bytes : List ℕ) (place : ℕ) (body : List ℕ) (end : ℕ) : Type 0 where
  pub size : List ℕ
  pub spelled : ms.Spells (length body) size
  pub stands : StandsAt bytes place (framed_body size body)
  pub ends : end ≡ place + length size + length body + 2

-- a frame of an object with this handle stands at a place, by the rules of the version that is read
abbrev pub FrameHolds : List ℕ → ℕ → ℕ → ℕ → Type 0
FrameHolds bytes place own end = (body : List ℕ) × (number : ℕ) × FrameAt bytes place body end × BeginsWithHead (version_at bytes) (bits body) number own

-- a length, and so many bytes and two more, stand at the place of a span, and its places are theirs
pub record SpanAt (bytes : List ℕ) (span : Span) : Type 0 where
  pub size : List ℕ
  pub body : List ℕ
  pub word : List ℕ
  pub spelled : ms.Spells (length body) size
  pub two : length word ≡ 2
  pub stands : StandsAt bytes span.from (size ++ body ++ word)
  pub body_place : span.body ≡ span.from + length size
  pub body_end : span.body_end ≡ span.body + length body
  pub ends : span.end ≡ span.body_end + 2

-- bytes after their length in the fewest units
abbrev pub sized : List ℕ → List ℕ
sized bytes = ms.short (length bytes) ++ bytes

-- the frame of an object as it is written: the length in the fewest units
unfoldable pub frame_bytes : Version → ObjectValue → List ℕ
frame_bytes version value = framed_body (ms.short (length (body_bytes version value))) (body_bytes version value)
