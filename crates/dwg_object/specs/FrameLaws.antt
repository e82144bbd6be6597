-- The frame that is tried at a place is the one that stands there, and there is one at the most.
use Rattle.std.proofs.Common.{◌≡◌, ℕ, List}
use Rattle.dwg_base.specs.declared.version.Version.{Version}
use Rattle.std.specs.Prelude.{Ok, ◌↔◌}
use Rattle.dwg_base.specs.Bytes.{AreBytes}
use Rattle.dwg_base.specs.Refusals.{Tried}
use Rattle.dwg_object.specs.declared.span.Span.{Span}
use Rattle.dwg_object.specs.Objects.{HeadParts}
use Rattle.dwg_object.specs.Frames.{FrameAt, FrameHolds}
use Rattle.dwg_object.specs.FrameLines.{tried_frame}
use Rattle.dwg_object.specs.FrameCauses.{ReportsFrame}
use Rattle.dwg_base.specs.Versions.{version_at}

-- at a place there is at most one frame
abbrev pub FramesAreOne : Type 0
FramesAreOne =
    (bytes : List ℕ) (place : ℕ) (body other : List ℕ) (end other_end : ℕ) → FrameAt bytes place body end → FrameAt bytes place other other_end → (body ≡ other) × (end ≡ other_end)

-- what is tried of a frame is what the input reports, and nothing else
abbrev pub FramesAreReported : Type 0
FramesAreReported =
    (version : Version) (bytes : List ℕ) (place index : ℕ) (tried : Tried (Span × HeadParts))
    → AreBytes bytes → (tried_frame version place index bytes ≡ tried) ↔ ReportsFrame version bytes place index tried

-- a frame of an object with a handle stands at a place exactly where it is what is tried there in the version that is read
abbrev pub FramesAreHeld : Type 0
FramesAreHeld =
    (bytes : List ℕ) (place index own end : ℕ) → AreBytes bytes
    → FrameHolds bytes place own end ↔ ((found : Span × HeadParts) × (tried_frame (version_at bytes) place index bytes ≡ Ok found) × (found.0.end ≡ end) × (found.1.own ≡ own))
