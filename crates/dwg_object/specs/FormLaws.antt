-- Forms: a body is read as at most one object, and an object that is written is read as itself.
use Rattle.std.proofs.Common.{◌≡◌, ℕ, ◌+◌, ◌^◌, ◌<◌, ◌≤◌, List, length}
use Rattle.dwg_base.specs.declared.version.Version.{Version}
use Rattle.dwg_base.specs.declared.version.Version.TheVariants.{Ac1015}
use Rattle.dwg_base.specs.Bytes.{AreBytes, StandsAt}
use Rattle.dwg_bits.specs.Bits.{bits}
use Rattle.dwg_classes.specs.declared.class.Class.{Class}
use Rattle.dwg_object.specs.Objects.{HeadParts, ObjectValue, number_of, handle_of}
use Rattle.dwg_object.specs.Forms.{FormOf}
use Rattle.dwg_object.specs.Heads.{HasHead}
use Rattle.dwg_object.specs.Written.{PartsFit, body_bytes, IsValidObject}
use Rattle.dwg_object.specs.Frames.{FrameAt, frame_bytes}

-- a body is read as one object
abbrev pub FormsAreOne : Type 0
FormsAreOne =
    (version : Version) (classes : List Class) (body : List ℕ) (value other : ObjectValue) → FormOf version classes body value → FormOf version classes body other → value ≡ other

-- and where it is read as one, it has a head of its number and its handle
abbrev pub FormsHaveHeads : Type 0
FormsHaveHeads =
    (version : Version) (classes : List Class) (body : List ℕ) (value : ObjectValue) → FormOf version classes body value
    → (parts : HeadParts) × HasHead version (bits body) parts × (number_of value ≡ parts.number) × (handle_of value ≡ parts.own)

-- where a body has a head, it is read as an object of that number and that handle
abbrev pub HeadsHaveForms : Type 0
HeadsHaveForms =
    (version : Version) (classes : List Class) (body : List ℕ) (parts : HeadParts) → HasHead version (bits body) parts
    → (value : ObjectValue) × FormOf version classes body value × (number_of value ≡ parts.number) × (handle_of value ≡ parts.own)

-- what is read of a body below 2^29 bytes is valid, and is written by no longer a body
abbrev pub FormsAreValid : Type 0
FormsAreValid =
    (version : Version) (classes : List Class) (body : List ℕ) (value : ObjectValue) → AreBytes body → length body < 2 ^ 29 → FormOf version classes body value
    → IsValidObject version classes value × (length (body_bytes version value) ≤ length body)

-- what is written of a valid object is read as it
abbrev pub ValidObjectsAreForms : Type 0
ValidObjectsAreForms =
    (version : Version) (classes : List Class) (value : ObjectValue) → IsValidObject version classes value → FormOf version classes (body_bytes version value) value

-- parts that fit in a version fit in AC1015
abbrev pub PartsFitNewer : Type 0
PartsFitNewer = (version : Version) (value : ObjectValue) → PartsFit version value → PartsFit Ac1015 value

-- where the frame of an object stands as it is written, its body is framed
abbrev pub WrittenFramesStand : Type 0
WrittenFramesStand =
    (version : Version) (bytes : List ℕ) (place : ℕ) (value : ObjectValue) → length (body_bytes version value) < 2 ^ 29 → StandsAt bytes place (frame_bytes version value)
    → FrameAt bytes place (body_bytes version value) (place + length (frame_bytes version value))

-- what is written of a frame are bytes
abbrev pub WrittenFramesAreBytes : Type 0
WrittenFramesAreBytes =
    (version : Version) (value : ObjectValue) → AreBytes (body_bytes version value) → length (body_bytes version value) < 2 ^ 29 → AreBytes (frame_bytes version value)
