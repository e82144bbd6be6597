-- What is found is what stands: the candidates are those of the pairs, a pair has one exactly where a frame with its handle stands at its place, and the scan finds a frame exactly where one is read with its common part. A rule of this project.
use Rattle.std.proofs.Common.{◌≡◌, ℕ, ◌<◌, true, List, Some, None}
use Rattle.dwg_base.specs.Versions.{version_at}
use Rattle.std.specs.Prelude.{◌↔◌}
use Rattle.dwg_base.specs.Bytes.{AreBytes}
use Rattle.dwg_bits.specs.Bits.{bits}
use Rattle.dwg_classes.specs.declared.class.Class.{Class}
use Rattle.dwg_object.specs.Forms.{FormOf}
use Rattle.dwg_object.specs.Heads.{BeginsWithHead}
use Rattle.dwg_object.specs.Frames.{FrameAt, FrameHolds}
use Rattle.dwg_object.specs.Objects.{ObjectValue}
use Rattle.dwg_objmap.specs.declared.pair.Pair.{Pair}
use Rattle.dwg_recover.specs.declared.frame.Frame.{Frame}
use Rattle.dwg_recover.specs.Frames.{candidate, has_common_part, scanned, candidates}
use Rattle.dwg_recover.specs.ListMembers.{IsAt, IsOneOf}

-- the frame of a pair that ends at a place
abbrev pub frame_of : ℕ → Pair → ℕ → Frame
frame_of number pair end = record { pair = Some number; handle = pair.handle; from = pair.place; end = end }

-- a pair with a positive handle has a candidate exactly where a frame with that handle stands at its place; one with the null handle has none
abbrev pub CandidatesHold : Type 0
CandidatesHold = (bytes : List ℕ) (number : ℕ) (pair : Pair) (end : ℕ) → AreBytes bytes
    → ((0 < pair.handle) × FrameHolds bytes pair.place pair.handle end) ↔ (candidate bytes number pair ≡ Some (frame_of number pair end))

-- a frame at a place that is read with its common part: its body has the Typed or the Plain form
pub record IsReadAt (classes : List Class) (bytes : List ℕ) (place end own : ℕ) : Type 0 where
  pub body : List ℕ
  pub number : ℕ
  pub object : ObjectValue
  pub frame : FrameAt bytes place body end
  pub head : BeginsWithHead (version_at bytes) (bits body) number own
  pub form : FormOf (version_at bytes) classes body object
  pub common : has_common_part object ≡ true

-- the frame that the scan finds at a place
abbrev pub scanned_frame : ℕ → ℕ → ℕ → Frame
scanned_frame place end own = record { pair = None; handle = own; from = place; end = end }

-- the scan finds a frame at a place exactly where one stands there that is read with its common part
abbrev pub ScannedAreRead : Type 0
ScannedAreRead = (classes : List Class) (bytes : List ℕ) (place end own : ℕ) → AreBytes bytes
    → IsReadAt classes bytes place end own ↔ (scanned classes bytes place ≡ Some (scanned_frame place end own))

-- the candidates of pairs are those of each pair, under its number
abbrev pub CandidatesAreOfPairs : Type 0
CandidatesAreOfPairs =
    (bytes : List ℕ) (pairs : List Pair) (frame : Frame)
    → IsOneOf frame (candidates bytes 0 pairs) ↔ ((number : ℕ) × (pair : Pair) × IsAt number pair pairs × (candidate bytes number pair ≡ Some frame))
