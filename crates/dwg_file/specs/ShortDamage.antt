-- Canonical files, with any preview, in which one byte, or two neighbouring ones, of one object's frame are changed: they are refused at that object. A rule of this project.
use Rattle.std.proofs.Common.{◌≡◌, ℕ, ◌+◌, ◌≤◌, List, ◌∷◌, ◌++◌, length, Some}
use Rattle.std.specs.List.{AllByRecursion}
use Rattle.dwg_base.specs.Bytes.{AreBytes}
use Rattle.dwg_base.specs.Devices.{MOST_BYTES}
use Rattle.dwg_base.specs.Refusals.{first_fault}
use Rattle.dwg_check.specs.ShortDamage.{DifferShortly}
use Rattle.dwg_grammar.specs.ModularCodes.{ms}
use Rattle.dwg_object.specs.Frames.{FrameHolds}
use Rattle.dwg_object.specs.FrameLines.{frame_refusal}
use Rattle.dwg_file.specs.Canonical.{Carried, IsCarried, canonical_with, classes_place, map_place_with, objects_place_with, others_place_with, preview_place, size_with, variables_place}
use Rattle.dwg_file.specs.CanonicalFrames.{canonical_frames_with}
use Rattle.dwg_file.specs.CanonicalBytes.{HasPart}
use Rattle.dwg_file.specs.Contents.{Contents}
use Rattle.dwg_file.specs.FileLines.{ALL_LINES}
use Rattle.dwg_file.specs.Spelled.{PairFrame}
use Rattle.dwg_file.specs.Valid.{IsValid}

-- an input differs from the canonical file of a drawing with a preview in one byte, or in no more than two neighbouring ones, and these lie in the body and the check word of a frame
pub record IsDamagedShortly (carried : Carried) (drawing : Contents) (frame : PairFrame) (bytes : List ℕ) : Type 0 where
  pub differ : DifferShortly (canonical_with carried drawing) bytes
  pub from : frame.pair.place + length (ms.short (length frame.body)) ≤ length differ.before
  pub to : length differ.before + length differ.here ≤ frame.end

-- such an input is refused for the check word of that frame, and for nothing before
abbrev pub ShortDamageIsRefused : Type 0
ShortDamageIsRefused =
    (carried : Carried) (drawing : Contents) (bytes : List ℕ) (earlier : List PairFrame) (frame : PairFrame) (later : List PairFrame) → IsCarried carried → IsValid drawing → size_with carried drawing ≤ MOST_BYTES → AreBytes bytes
    → canonical_frames_with carried drawing ≡ earlier ++ frame ∷ later → IsDamagedShortly carried drawing frame bytes
    → first_fault ALL_LINES bytes ≡ Some (frame_refusal 30 (length earlier) frame.pair.place)

-- and no frame with the handle of the pair holds at the place of that frame
abbrev pub DamagedFrameFails : Type 0
DamagedFrameFails =
    (carried : Carried) (drawing : Contents) (bytes : List ℕ) (earlier : List PairFrame) (frame : PairFrame) (later : List PairFrame) → IsCarried carried → IsValid drawing → size_with carried drawing ≤ MOST_BYTES → AreBytes bytes
    → canonical_frames_with carried drawing ≡ earlier ++ frame ∷ later → IsDamagedShortly carried drawing frame bytes
    → (end : ℕ) → FrameHolds bytes frame.pair.place frame.pair.handle end → ⊥

-- an input is as long as the canonical file, and has as it is there all but one frame: header, framed sections, preview, map pages, unknown sections, and the frames before that one and after it
pub record ElseIsSame (carried : Carried) (drawing : Contents) (bytes : List ℕ) (earlier later : List PairFrame) : Type 0 where
  pub long : length bytes ≡ length (canonical_with carried drawing)
  pub header : HasPart carried drawing bytes 0 (variables_place drawing)
  pub variables : HasPart carried drawing bytes (variables_place drawing) (classes_place drawing)
  pub classes : HasPart carried drawing bytes (classes_place drawing) (preview_place drawing)
  pub preview : HasPart carried drawing bytes (preview_place drawing) (objects_place_with carried drawing)
  pub mapped : HasPart carried drawing bytes (map_place_with carried drawing) (others_place_with carried drawing)
  pub others : HasPart carried drawing bytes (others_place_with carried drawing) (size_with carried drawing)
  pub before : AllByRecursion (λ (one : PairFrame). HasPart carried drawing bytes one.pair.place one.end) earlier
  pub after : AllByRecursion (λ (one : PairFrame). HasPart carried drawing bytes one.pair.place one.end) later

-- so is one that is damaged shortly
abbrev pub AllElseIsSame : Type 0
AllElseIsSame =
    (carried : Carried) (drawing : Contents) (bytes : List ℕ) (earlier : List PairFrame) (frame : PairFrame) (later : List PairFrame) → IsCarried carried → IsValid drawing → size_with carried drawing ≤ MOST_BYTES
    → canonical_frames_with carried drawing ≡ earlier ++ frame ∷ later → IsDamagedShortly carried drawing frame bytes → ElseIsSame carried drawing bytes earlier later
