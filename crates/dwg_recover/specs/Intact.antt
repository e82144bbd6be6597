-- What is asked of an input so that the intact objects of a drawing are recovered of it: its header and its map are those of the drawing's canonical file with a preview, and each frame either is that file's or doesn't hold. A rule of this project.
use Rattle.std.specs.Prelude.{◌≡◌, ◌⊎◌, ℕ, ◌≤◌, true, List, length, map}
use Rattle.std.specs.List.{AllByRecursion}
use Rattle.dwg_base.specs.Bytes.{AreBytes, StandsAt}
use Rattle.dwg_base.specs.Devices.{MOST_BYTES}
use Rattle.dwg_file.specs.Canonical.{Carried, IsCarried, canonical_with, class_content, classes_place, map_with, map_place_with, others_place_with, preview_place, size_with, variables_place, header_with}
use Rattle.dwg_file.specs.CanonicalFrames.{canonical_frames_with}
use Rattle.dwg_file.specs.CanonicalBytes.{HasPart}
use Rattle.dwg_file.specs.Contents.{Contents}
use Rattle.dwg_file.specs.Spelled.{IsFrameOfPair, PairFrame}
use Rattle.dwg_file.specs.Valid.{IsValid}
use Rattle.dwg_object.specs.Frames.{FrameHolds}
use Rattle.dwg_objmap.specs.declared.pair.Pair.{Pair}
use Rattle.dwg_objmap.specs.Pages.{MapOf}
use Rattle.dwg_sections.specs.declared.framed.Framed.TheVariants as framed
use Rattle.dwg_sections.specs.FileHeader.{BeginsWithHeader, header_bytes}
use Rattle.dwg_sections.specs.Framed.{FramedAt}
use Rattle.dwg_recover.specs.declared.loss.Kept.{Kept}
use Rattle.dwg_recover.specs.ListMembers.{IsOneOf}
use Rattle.dwg_recover.specs.Recovering.{recovered}

-- the pairs of frames
abbrev pub pairs_framed : List PairFrame → List Pair
pairs_framed frames = map (λ (frame : PairFrame). frame.pair) frames

-- they are: one for each object, each standing at the place of its pair; and the header, the classes and the map stand at their places
pub record PartsStand (carried : Carried) (drawing : Contents) : Type 0 where
  pub begins : BeginsWithHeader (canonical_with carried drawing) (header_with carried drawing)
  pub reaches : length (header_bytes (header_with carried drawing)) ≡ variables_place drawing
  pub classes : FramedAt (canonical_with carried drawing) (classes_place drawing) framed.Classes (class_content drawing.classes)
  pub pages : StandsAt (canonical_with carried drawing) (map_place_with carried drawing) (map_with carried drawing)
  pub mapped : MapOf (canonical_with carried drawing) (map_place_with carried drawing) (pairs_framed (canonical_frames_with carried drawing))
  pub objects : map (λ (frame : PairFrame). frame.object) (canonical_frames_with carried drawing) ≡ drawing.objects
  pub stand : AllByRecursion (IsFrameOfPair drawing.classes (canonical_with carried drawing)) (canonical_frames_with carried drawing)

abbrev pub CanonicalPartsStand : Type 0
CanonicalPartsStand = (carried : Carried) (drawing : Contents) → IsCarried carried → IsValid drawing → size_with carried drawing ≤ MOST_BYTES → PartsStand carried drawing

-- an input as long as the canonical file of a drawing with a preview, with its file header and its pages of the map; each frame is as it is there, or none with the handle of its pair holds at its place
pub record IsPartlyIntact (carried : Carried) (drawing : Contents) (bytes : List ℕ) : Type 0 where
  pub long : length bytes ≡ length (canonical_with carried drawing)
  pub header : HasPart carried drawing bytes 0 (variables_place drawing)
  pub mapped : HasPart carried drawing bytes (map_place_with carried drawing) (others_place_with carried drawing)
  pub frames : (frame : PairFrame) → IsOneOf frame (canonical_frames_with carried drawing)
      → HasPart carried drawing bytes frame.pair.place frame.end ⊎ ((end : ℕ) → FrameHolds bytes frame.pair.place frame.pair.handle end → ⊥)

-- a frame of the map as it is reported where it is kept
abbrev pub kept_frame : PairFrame → Kept
kept_frame frame = record { handle = frame.pair.handle; from = frame.pair.place; end = frame.end; mapped = true }

-- a frame that is as it is in the canonical file is kept of such an input, and its object is recovered where the classes are intact too
abbrev pub IntactObjectsAreKept : Type 0
IntactObjectsAreKept =
    (carried : Carried) (drawing : Contents) (bytes : List ℕ) (frame : PairFrame) → IsCarried carried → IsValid drawing → size_with carried drawing ≤ MOST_BYTES → AreBytes bytes → IsPartlyIntact carried drawing bytes
    → IsOneOf frame (canonical_frames_with carried drawing) → HasPart carried drawing bytes frame.pair.place frame.end
    → IsOneOf (kept_frame frame) (recovered bytes).kept
    × (HasPart carried drawing bytes (classes_place drawing) (preview_place drawing) → IsOneOf frame.object (recovered bytes).drawing.objects)
