-- Which frames are kept: those that the pairs of the map name, and then those that stand elsewhere. A rule of this project, over the frames of the Open Design Specification, "R13 to R2000 file layout, object data".
use Rattle.std.specs.Prelude.{ℕ, ◌+◌, Bool, true, false, not, ◌&&◌, List, [], ◌∷◌, ◌++◌, length, fold, flat_map, nat_le, nat_lt, option_map, ◌==◌, Option, Some, None, if◌then◌else◌}
use Rattle.dwg_base.specs.Versions.{version_at}
use Rattle.std.specs.List.{cons_option, filter, list_all, list_any, range_with_len}
use Rattle.std.specs.Option.{is_some, option_and_then}
use Rattle.std.specs.Result.{result_ok}
use Rattle.dwg_classes.specs.declared.class.Class.{Class}
use Rattle.dwg_object.proofs.FormLaws.{form_at}
use Rattle.dwg_object.specs.declared.span.Span.{Span}
use Rattle.dwg_object.specs.FrameLines.{has_check_word, head_at, span_body, tried_span}
use Rattle.dwg_object.specs.Objects.{HeadParts, ObjectValue, TypedValue, PlainValue, RawValue}
use Rattle.dwg_objmap.specs.declared.pair.Pair.{Pair}
use Rattle.dwg_recover.specs.declared.frame.Frame.{Frame}
use Rattle.dwg_recover.specs.declared.loss.Kept.{Kept}
use Rattle.dwg_recover.specs.declared.loss.Loss.{Loss}
use Rattle.dwg_recover.specs.declared.loss.Loss.TheVariants.{Object}

-- whether a frame shares a byte with those from a place to another
abbrev pub overlaps : ℕ → ℕ → Frame → Bool
overlaps from end frame = nat_lt from frame.end && nat_lt frame.from end

-- whether none of the frames does
abbrev pub is_free : List Frame → ℕ → ℕ → Bool
is_free frames from end = not (list_any (overlaps from end) frames)

-- whether a place is at or after the end of every frame
abbrev pub follows : List Frame → ℕ → Bool
follows frames from = list_all (λ (frame : Frame). nat_le frame.end from) frames

-- whether no frame has the handle
abbrev pub is_new : List Frame → ℕ → Bool
is_new frames handle = not (list_any (λ (frame : Frame). frame.handle == handle) frames)

-- whether a number is that of a pair
abbrev pub is_number : ℕ → Option ℕ → Bool
is_number number None = false
is_number number (Some pair) = pair == number

-- whether one of the frames was kept for the pair of a number
abbrev pub is_kept_pair : List Frame → ℕ → Bool
is_kept_pair frames number = list_any (λ (frame : Frame). is_number number frame.pair) frames

-- the span at a place, where one stands there
unfoldable pub span_found : List ℕ → ℕ → Option Span
span_found bytes place = result_ok (tried_span place 0 bytes)

-- the own handle of the frame of a span, where its check word is right and its body has a head
unfoldable pub own_of_span : List ℕ → Span → Option ℕ
own_of_span bytes span = if has_check_word bytes span then option_map (λ (parts : HeadParts). parts.own) (head_at (version_at bytes) bytes span) else None

-- the frame of a pair whose span and own handle are found at its place, where the pair's handle is positive and is the frame's own
abbrev pub candidate_of : ℕ → Pair → Span → ℕ → Option Frame
candidate_of number pair span own =
    if nat_lt 0 pair.handle && (own == pair.handle) then Some (record { pair = Some number; handle = pair.handle; from = pair.place; end = span.end }) else None

-- the frame of a pair, which has this number
abbrev pub candidate : List ℕ → ℕ → Pair → Option Frame
candidate bytes number pair =
    option_and_then (λ (span : Span). option_and_then (candidate_of number pair span) (own_of_span bytes span)) (span_found bytes pair.place)

-- the frames of pairs, in map order; the first pair has this number
unfoldable pub candidates : List ℕ → ℕ → List Pair → List Frame
candidates bytes number [] = []
candidates bytes number (pair ∷ pairs) = cons_option (candidate bytes number pair) (candidates bytes (number + 1) pairs)

-- the frames that begin before a place, in order of place, and at one place as they come
unfoldable pub in_order_of_place : ℕ → List Frame → List Frame
in_order_of_place most frames = flat_map (λ place. filter (λ (frame : Frame). frame.from == place) frames) (range_with_len 0 most)

-- the frames kept, and the next candidate where it is kept: it follows all of them, and has a new handle
abbrev pub keep_mapped : List Frame → Frame → List Frame
keep_mapped kept frame = if follows kept frame.from && is_new kept frame.handle then kept ++ frame ∷ [] else kept

-- the frames that are kept of candidates
abbrev pub mapped_of : List Frame → List Frame
mapped_of ordered = fold keep_mapped [] ordered

-- the frames that are kept for the pairs of the map
unfoldable pub mapped_frames : List ℕ → List Pair → List Frame
mapped_frames bytes pairs = mapped_of (in_order_of_place (length bytes) (candidates bytes 0 pairs))

-- whether an object is read with its common part
abbrev pub has_common_part : ObjectValue → Bool
has_common_part (TypedValue number handle common body) = true
has_common_part (PlainValue number handle common rest refs) = true
has_common_part (RawValue number handle bytes) = false

-- the frame of a span and an own handle that are found at a place, where its body is read with its common part
abbrev pub scanned_of : List Class → List ℕ → ℕ → Span → ℕ → Option Frame
scanned_of classes bytes place span own =
    if has_common_part (form_at (version_at bytes) classes (span_body bytes span)) then Some (record { pair = None; handle = own; from = place; end = span.end }) else None

-- such a frame at a place
abbrev pub scanned : List Class → List ℕ → ℕ → Option Frame
scanned classes bytes place =
    option_and_then (λ (span : Span). option_and_then (scanned_of classes bytes place span) (own_of_span bytes span)) (span_found bytes place)

-- the frames kept, and the one at a place where it is kept: it shares no byte with any of them, and has a new handle
abbrev pub keep_free : List Frame → Option Frame → List Frame
keep_free kept None = kept
keep_free kept (Some frame) = if is_free kept frame.from frame.end && is_new kept frame.handle then kept ++ frame ∷ [] else kept

-- the frames kept, and those that are kept at places, one after the other
abbrev pub scanned_over : List Class → List ℕ → List Frame → List ℕ → List Frame
scanned_over classes bytes kept places = fold (λ (frames : List Frame) (place : ℕ). keep_free frames (scanned classes bytes place)) kept places

-- the frames kept, and those that are kept at any place of the input
unfoldable pub with_scanned : List Class → List ℕ → List Frame → List Frame
with_scanned classes bytes kept = scanned_over classes bytes kept (range_with_len 0 (length bytes))

-- a frame as it is reported
abbrev pub kept_of : Frame → Kept
kept_of frame = record { handle = frame.handle; from = frame.from; end = frame.end; mapped = is_some frame.pair }

-- the pairs that no frame was kept for, in map order; the first pair has this number
unfoldable pub lost_pairs : List Frame → ℕ → List Pair → List Loss
lost_pairs kept number [] = []
lost_pairs kept number (pair ∷ pairs) =
    if is_kept_pair kept number then lost_pairs kept (number + 1) pairs else Object pair.handle pair.place ∷ lost_pairs kept (number + 1) pairs
