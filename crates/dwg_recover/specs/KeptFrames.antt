-- Which frames are kept, said of each by itself, that no others are, and what the frames that are kept and their objects are: found in the input, without a byte or a handle in common. A rule of this project.
use Rattle.std.proofs.Common.{◌≡◌, ℕ, ◌≤◌, List, ◌∷◌, ◌++◌, length, Some, None, ◌<◌, map}
use Rattle.dwg_base.specs.Versions.{version_at}
use Rattle.std.specs.Prelude.{◌≢◌, ◌⊎◌, AllPairs, ◌↔◌}
use Rattle.std.specs.List.{AllByRecursion}
use Rattle.dwg_classes.specs.declared.class.Class.{Class}
use Rattle.dwg_objmap.specs.declared.pair.Pair.{Pair}
use Rattle.dwg_recover.specs.declared.frame.Frame.{Frame}
use Rattle.dwg_recover.specs.Placing.{IsFound}
use Rattle.dwg_recover.specs.Frames.{candidates, in_order_of_place, mapped_frames, scanned, with_scanned}
use Rattle.dwg_recover.specs.ListMembers.{IsOneOf}
use Rattle.std.specs.List.Sorted.{IsPermutation}
use Rattle.dwg_recover.specs.Recovering.{classes_found, drawing_recovered, frames_kept, frames_mapped, object_of, pairs_read, frame_body}
use Rattle.dwg_object.specs.Forms.{FormOf}
use Rattle.dwg_object.specs.Objects.{handle_of}

-- two frames share no byte, and have two handles
pub record AreOther (one other : Frame) : Type 0 where
  pub apart : (one.end ≤ other.from) ⊎ (other.end ≤ one.from)
  pub handles : one.handle ≢ other.handle

-- frames were found in the input, and no two share a byte or have one handle
pub record AreKept (bytes : List ℕ) (frames : List Frame) : Type 0 where
  pub found : AllByRecursion (IsFound bytes) frames
  pub other : AllPairs AreOther frames

-- a candidate in order of place is kept exactly where it begins at or after the end of every candidate before it that is kept, and has another handle than each
abbrev pub MapKeepsExactly : Type 0
MapKeepsExactly =
    (bytes : List ℕ) (pairs : List Pair) (before : List Frame) (frame : Frame) (after : List Frame) → in_order_of_place (length bytes) (candidates bytes 0 pairs) ≡ before ++ frame ∷ after
    → IsOneOf frame (mapped_frames bytes pairs)
    ↔ ((other : Frame) → IsOneOf other before → IsOneOf other (mapped_frames bytes pairs) → (other.end ≤ frame.from) × (other.handle ≢ frame.handle))

-- the frames that are kept before a place are those that pairs name, and those of lesser places that the scan keeps
abbrev pub AreBefore : List Frame → List Frame → ℕ → Frame → Type 0
AreBefore mapped kept place other = IsOneOf other mapped ⊎ (IsOneOf other kept × (other.pair ≡ None) × (other.from < place))

-- a frame that the scan finds at a place is kept exactly where it shares no byte with any that is kept for a pair or at a lesser place, and has another handle than these
abbrev pub ScanKeepsExactly : Type 0
ScanKeepsExactly =
    (classes : List Class) (bytes : List ℕ) (mapped : List Frame) (place : ℕ) (frame : Frame) → AllByRecursion (λ (one : Frame). one.pair ≢ None) mapped → place < length bytes → scanned classes bytes place ≡ Some frame
    → IsOneOf frame (with_scanned classes bytes mapped) ↔ ((other : Frame) → AreBefore mapped (with_scanned classes bytes mapped) place other → AreOther other frame)

-- a frame that is kept for a pair is one of the candidates, and any other that is kept is what the scan finds at its place
abbrev pub NoOthersAreKept : Type 0
NoOthersAreKept = (bytes : List ℕ) (frame : Frame)
    → (IsOneOf frame (frames_mapped bytes) → IsOneOf frame (in_order_of_place (length bytes) (candidates bytes 0 (pairs_read bytes))))
    × (IsOneOf frame (frames_kept bytes) → IsOneOf frame (frames_mapped bytes) ⊎ ((frame.from < length bytes) × (scanned (classes_found bytes) bytes frame.from ≡ Some frame)))

-- a frame is read as its object: the object has the form of the frame's body, and the frame's handle, which is positive
pub record IsRead (classes : List Class) (bytes : List ℕ) (frame : Frame) : Type 0 where
  pub form : FormOf (version_at bytes) classes (frame_body bytes frame.from) (object_of classes bytes frame)
  pub own : handle_of (object_of classes bytes frame) ≡ frame.handle
  pub positive : 0 < frame.handle

-- the objects of what is recovered of a damaged input are those of the frames that are kept, as many, each read of its own frame
pub record AreObjectsOfFrames (bytes : List ℕ) : Type 0 where
  pub read : AllByRecursion (IsRead (classes_found bytes) bytes) (frames_kept bytes)
  pub same : IsPermutation (map (object_of (classes_found bytes) bytes) (frames_kept bytes)) (drawing_recovered bytes).objects
  pub count : length (drawing_recovered bytes).objects ≡ length (frames_kept bytes)

abbrev pub ObjectsAreOfFrames : Type 0
ObjectsAreOfFrames = (bytes : List ℕ) → AreObjectsOfFrames bytes
