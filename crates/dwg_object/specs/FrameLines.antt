-- The lines of the table of refusals on the frame of a pair. A rule of this project, over the frames of the Open Design Specification, "R13 to R2000 file layout, object data".
use Rattle.std.specs.Prelude.{ℕ, ◌+◌, ◌-◌, not, Bool, List, length, take, drop, nat_lt, option_map, ◌==◌, Option, Some, None, Ok, Err, if◌then◌else◌}
use Rattle.dwg_base.specs.declared.version.Version.{Version}
use Rattle.std.specs.Int.{w16, from_le_bytes}
use Rattle.dwg_base.specs.Refusals.{Tried}
use Rattle.dwg_base.specs.Refusal.{Refusal}
use Rattle.dwg_bits.specs.Bits.{bits}
use Rattle.dwg_check.specs.CheckWord.{CHECK_SEED, check_word}
use Rattle.dwg_grammar.specs.ModularCodes.{ms}
use Rattle.dwg_object.specs.declared.span.Span.{Span}
use Rattle.dwg_object.specs.Objects.{HeadParts}
use Rattle.dwg_object.specs.Heads.{head}

-- the refusal of a pair's frame by a line: at the pair's place
abbrev pub frame_refusal : ℕ → ℕ → ℕ → Refusal
frame_refusal line index place = record { line = line; index = index; place = place }

-- the places of a frame at a place, whose length is spelled by so many bytes
abbrev pub span_of : ℕ → ℕ → ℕ → Span
span_of place wide long = record { from = place; body = place + wide; body_end = place + wide + long; end = place + wide + long + 2 }

-- the span of the length that was parsed at a place, or the refusal of one that isn't spelled, or whose frame passes the end of the input
abbrev pub span_parsed : ℕ → ℕ → ℕ → ℕ → Option (ℕ × List ℕ) → Tried Span
span_parsed place index len left None = Err (frame_refusal 28 index place)
span_parsed place index len left (Some (long, rest)) =
    if nat_lt len (place + (left - length rest) + long + 2) then Err (frame_refusal 28 index place)
    else Ok (span_of place (left - length rest) long)

-- the span of the frame at a place, or its refusal: the place is after the input, or no length is spelled there, or the frame passes the end of the input
unfoldable pub tried_span : ℕ → ℕ → List ℕ → Tried Span
tried_span place index bytes =
    if not (nat_lt place (length bytes)) then Err (frame_refusal 27 index place)
    else span_parsed place index (length bytes) (length (drop place bytes)) (ms.parse (drop place bytes))

-- the bytes from one place to another
abbrev pub bytes_from : List ℕ → ℕ → ℕ → List ℕ
bytes_from bytes from to = take (to - from) (drop from bytes)

-- the body of a span
abbrev pub span_body : List ℕ → Span → List ℕ
span_body bytes span = bytes_from bytes span.body span.body_end

-- the check word of a span is that of its length and its body
abbrev pub has_check_word : List ℕ → Span → Bool
has_check_word bytes span =
    from_le_bytes w16 (bytes_from bytes span.body_end span.end) == check_word CHECK_SEED (bytes_from bytes span.from span.body_end)

-- what the head of a span's body says, in a version
abbrev pub head_at : Version → List ℕ → Span → Option HeadParts
head_at version bytes span = option_map (λ (found : HeadParts × List Bool). found.0) ((head version).parse (bits (span_body bytes span)))

-- what a span gives that was found: a wrong check word and then a missing head refuse it
abbrev pub head_tried : ℕ → ℕ → Span → Option HeadParts → Tried (Span × HeadParts)
head_tried place index span None = Err (frame_refusal 31 index place)
head_tried place index span (Some parts) = Ok (span, parts)

abbrev pub frame_checked : Version → ℕ → ℕ → List ℕ → Tried Span → Tried (Span × HeadParts)
frame_checked version place index bytes (Err refusal) = Err refusal
frame_checked version place index bytes (Ok span) =
    if not (has_check_word bytes span) then Err (frame_refusal 30 index place) else head_tried place index span (head_at version bytes span)

-- the span and the head of a version of the frame at a place, or its refusal
unfoldable pub tried_frame : Version → ℕ → ℕ → List ℕ → Tried (Span × HeadParts)
tried_frame version place index bytes = frame_checked version place index bytes (tried_span place index bytes)
