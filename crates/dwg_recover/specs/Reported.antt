-- What holds of every answer of recovery: its frames stand in the input and share nothing, and its objects are those of its frames; and what it is where the input spells a drawing, and where it is damaged. A rule of this project.
use Rattle.std.specs.Prelude.{◌≡◌, ◌≢◌, ⊤, ℕ, ◌≤◌, ◌↔◌, true, Some, None, List, [], ◌∷◌, length, map}
use Rattle.dwg_base.specs.Versions.{version_at}
use Rattle.std.specs.List.{AllByRecursion}
use Rattle.std.specs.List.Sorted.{IsPermutation}
use Rattle.dwg_base.specs.Bytes.{AreBytes}
use Rattle.dwg_base.specs.Devices.{MOST_BYTES}
use Rattle.dwg_base.specs.Refusals.{first_fault}
use Rattle.dwg_base.specs.Refusal.{Refusal}
use Rattle.dwg_classes.specs.declared.class.Class.{Class}
use Rattle.dwg_file.specs.Contents.{Contents}
use Rattle.dwg_file.specs.FileLines.{ALL_LINES}
use Rattle.dwg_file.specs.Spelled.{Spelled, PairFrame}
use Rattle.dwg_file.specs.Valid.{IsValid}
use Rattle.dwg_object.specs.Forms.{FormOf}
use Rattle.dwg_object.proofs.FormLaws.{form_at}
use Rattle.dwg_object.specs.Frames.{FrameAt}
use Rattle.dwg_object.specs.Objects.{ObjectValue, handle_of}
use Rattle.dwg_recover.specs.declared.frame.Frame.{Frame}
use Rattle.dwg_recover.specs.declared.loss.Kept.{Kept}
use Rattle.dwg_recover.specs.Frames.{kept_of}
use Rattle.dwg_recover.specs.ListMembers.{IsOneOf}
use Rattle.dwg_recover.specs.Recovering.{RecoveredValue, frame_body, frames_kept, frames_mapped, recovered, recovered_damaged, reported}
use Rattle.std.proofs.Common.{◌+◌}
use Rattle.dwg_recover.specs.FoundFrames.{frame_of}

-- frames are reported in order of place, and no two share a byte or have one handle
abbrev pub AreDistinguished : List Kept → Type 0
AreDistinguished [] = ⊤
AreDistinguished (kept ∷ others) = AllByRecursion (λ (other : Kept). (kept.end ≤ other.from) × (kept.handle ≢ other.handle)) others × AreDistinguished others

-- the object that the body of a frame is read as under the classes
abbrev pub object_reported : List Class → List ℕ → Kept → ObjectValue
object_reported classes bytes kept = form_at (version_at bytes) classes (frame_body bytes kept.from)

-- a frame that is reported stands in the input with its body, and the object of that body has its handle
pub record IsReported (classes : List Class) (bytes : List ℕ) (kept : Kept) : Type 0 where
  pub stands : FrameAt bytes kept.from (frame_body bytes kept.from) kept.end
  pub form : FormOf (version_at bytes) classes (frame_body bytes kept.from) (object_reported classes bytes kept)
  pub own : handle_of (object_reported classes bytes kept) ≡ kept.handle

-- the frames stand in the input, in order of place, and share no byte and no handle; the objects are those of the frames under the classes of the drawing; and the drawing is valid
pub record IsValidAnswer (bytes : List ℕ) (value : RecoveredValue) : Type 0 where
  pub apart : AreDistinguished value.kept
  pub stand : AllByRecursion (IsReported value.drawing.classes bytes) value.kept
  pub objects : IsPermutation (map (object_reported value.drawing.classes bytes) value.kept) value.drawing.objects
  pub valid : length bytes ≤ MOST_BYTES → IsValid value.drawing

-- so it is of every input
abbrev pub RecoveredIsValid : Type 0
RecoveredIsValid = (bytes : List ℕ) → AreBytes bytes → IsValidAnswer bytes (recovered bytes)

-- of the frames that are kept of a damaged input, those of the map are reported as mapped, and no others
abbrev pub MappedAreReported : Type 0
MappedAreReported = (bytes : List ℕ) (frame : Frame) → IsOneOf frame (frames_kept bytes) → ((kept_of frame).mapped ≡ true) ↔ IsOneOf frame (frames_mapped bytes)

-- the frames of pairs as recovery names them; the first pair has this number
abbrev pub named : ℕ → List PairFrame → List Frame
named number [] = []
named number (frame ∷ frames) = frame_of number frame.pair frame.end ∷ named (number + 1) frames

-- of an input that spells a drawing it is that drawing, nothing is refused or lost, and the frames that it is spelled with are reported in order of place, each as mapped
abbrev pub SpelledIsAnswered : Type 0
SpelledIsAnswered =
    (drawing : Contents) (bytes : List ℕ) (spelled : Spelled drawing bytes) → AreBytes bytes
    → recovered bytes ≡ record { drawing = drawing; refusal = None; losses = []; kept = reported bytes (named 0 spelled.frames) }

-- of an input that is refused it is what is recovered of a damaged one, with that refusal
abbrev pub DamagedIsAnswered : Type 0
DamagedIsAnswered =
    (bytes : List ℕ) (refusal : Refusal) → first_fault ALL_LINES bytes ≡ Some refusal
    → (recovered bytes ≡ recovered_damaged bytes) × ((recovered_damaged bytes).refusal ≡ Some refusal)
