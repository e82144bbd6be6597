-- The frames, the map and the unknown sections of the canonical file: each stands at its place.
use Rattle.std.proofs.Common.{◌≡◌, refl, ap, subst, inl, inr, ℕ, ◌+◌, ◌^◌, ◌<◌, ◌≤◌, List, [], ◌∷◌, length, length-append, arith}
use Rattle.dwg_base.specs.declared.version.Version.{Version}
use Rattle.std.specs.Prelude.{map, AllPairs}
use Rattle.std.specs.List.{AllByRecursion}
use Rattle.std.proofs.lemmas.List.Elements.{All-from_recursion}
use Rattle.std.proofs.lemmas.List.Kept.{AllPairs-cons}
use Rattle.dwg_base.specs.Bytes.{AreBytes, StandsAt}
use Rattle.dwg_base.specs.Versions.{version_at}
use Rattle.dwg_classes.specs.declared.class.Class.{Class}
use Rattle.dwg_object.specs.Forms.{FormOf}
use Rattle.dwg_object.specs.Written.{IsValidObject, body_bytes}
use Rattle.dwg_object.proofs.FormLaws.{valid_handle, valid_is_form, valid_fits, written_frame, frame_is_bytes}
use Rattle.dwg_object.specs.Frames.{frame_bytes}
use Rattle.dwg_object.proofs.LengthLemmas.{bytes_joined}
use Rattle.dwg_object.specs.Objects.{ObjectValue, handle_of}
use Rattle.dwg_object.proofs.StandingLemmas.{stands_first, stands_next}
use Rattle.dwg_objmap.specs.declared.pair.Pair.{Pair}
use Rattle.dwg_objmap.specs.Writing.{Ascend}
use Rattle.dwg_file.specs.Contents.{OtherValue}
use Rattle.dwg_file.specs.Canonical.{frames_bytes, placed, others_bytes, others_located}
use Rattle.dwg_file.proofs.CanonicalHeader.{pairs_head, pairs_tail}
use Rattle.dwg_file.specs.Spelled.{PairFrame, IsFrameOfPair, AreApart, AreAscending, AreSectionsOf}
use Rattle.dwg_file.specs.Valid.{IsOther}
use Rattle.dwg_file.specs.CanonicalFrames.{frames_from}

-- their pairs are those that are written
pub pairs_of_frames : (version : Version) (objects : List ObjectValue) (place : ℕ) → placed version place objects ≡ map (λ (frame : PairFrame). frame.pair) (frames_from version place objects)
pairs_of_frames version [] place = refl
pairs_of_frames version (object ∷ objects) place =
    ap (λ (pairs : List Pair). record { handle = handle_of object; place = place } ∷ pairs) (pairs_of_frames version objects (place + length (frame_bytes version object)))

-- and their objects are the objects
pub objects_of_frames : (version : Version) (objects : List ObjectValue) (place : ℕ) → map (λ (frame : PairFrame). frame.object) (frames_from version place objects) ≡ objects
objects_of_frames version [] place = refl
objects_of_frames version (object ∷ objects) place = ap (λ others. object ∷ others) (objects_of_frames version objects (place + length (frame_bytes version object)))

-- each stands at its place, in bytes that are read by their version
pub frames_stand : (version : Version) (classes : List Class) (bytes : List ℕ) (objects : List ObjectValue) (place : ℕ) → version ≡ version_at bytes → AllByRecursion (IsValidObject version classes) objects
    → StandsAt bytes place (frames_bytes version objects) → AllByRecursion (IsFrameOfPair classes bytes) (frames_from version place objects)
frames_stand version classes bytes [] place same are stands = tt
frames_stand version classes bytes (object ∷ objects) place same are stands = (
  record {
    stands = written_frame version bytes place object (valid_fits version classes object are.0).2 (stands_first bytes place (frame_bytes version object) (frames_bytes version objects) stands);
    form = subst (λ (v : Version). FormOf v classes (body_bytes version object) object) same (valid_is_form version classes object are.0);
    own = refl;
  },
  frames_stand version classes bytes objects (place + length (frame_bytes version object)) same are.1 (stands_next bytes place (frame_bytes version object) (frames_bytes version objects) stands),
)

-- each begins at the first place or after it
pub frames_after : (version : Version) (objects : List ObjectValue) (end place : ℕ) → end ≤ place → AllByRecursion (λ (frame : PairFrame). end ≤ frame.pair.place) (frames_from version place objects)
frames_after version [] end place before = tt
frames_after version (object ∷ objects) end place before = (before, frames_after version objects end (place + length (frame_bytes version object)) (omega arith))

-- a frame is apart from those that begin after its end
apart_after : (one : PairFrame) (frames : List PairFrame) → AllByRecursion (λ (frame : PairFrame). one.end ≤ frame.pair.place) frames → AllByRecursion (AreApart one) frames
apart_after one [] after = tt
apart_after one (frame ∷ frames) after = (inl after.0, apart_after one frames after.1)

-- so no two share a byte
pub frames_apart : (version : Version) (objects : List ObjectValue) (place : ℕ) → AllPairs AreApart (frames_from version place objects)
frames_apart version [] place = λ i j d before inside. absurd (omega arith)
frames_apart version (object ∷ objects) place =
    let end : ℕ = place + length (frame_bytes version object) in
    let one : PairFrame = record { pair = record { handle = handle_of object; place = place }; body = body_bytes version object; end = end; object = object } in
    AllPairs-cons AreApart one (frames_from version end objects)
    (All-from_recursion (AreApart one) (frames_from version end objects) (apart_after one (frames_from version end objects) (frames_after version objects end end (omega arith))))
    (frames_apart version objects end)

-- pairs of ascending objects ascend, where the frames end in range
placed_ascend : (version : Version) (classes : List Class) (objects : List ObjectValue) (place handle : ℕ) → AllByRecursion (IsValidObject version classes) objects → AreAscending objects
    → AllByRecursion (λ (object : ObjectValue). handle < handle_of object) objects → place + length (frames_bytes version objects) < 2 ^ 63 → Ascend handle (placed version place objects)
placed_ascend version classes [] place handle are ascending above below = tt
placed_ascend version classes (object ∷ objects) place handle are ascending above below =
    let long : length (frames_bytes version (object ∷ objects)) ≡ length (frame_bytes version object) + length (frames_bytes version objects) = length-append (frame_bytes version object) (frames_bytes version objects) in (
      above.0,
      (valid_handle version classes object are.0).1,
      omega arith,
      placed_ascend version classes objects (place + length (frame_bytes version object)) (handle_of object) are.1
          (pairs_tail (λ one other. handle_of one < handle_of other) object objects ascending)
          (pairs_head (λ one other. handle_of one < handle_of other) object objects ascending) (omega (arith, long)),
    )

-- all handles are above 0
handles_positive : (version : Version) (classes : List Class) (objects : List ObjectValue) → AllByRecursion (IsValidObject version classes) objects → AllByRecursion (λ (object : ObjectValue). 0 < handle_of object) objects
handles_positive version classes [] are = tt
handles_positive version classes (object ∷ objects) are = ((valid_handle version classes object are.0).0, handles_positive version classes objects are.1)

-- so a map is written of them
pub pairs_ascend : (version : Version) (classes : List Class) (objects : List ObjectValue) (place : ℕ) → AllByRecursion (IsValidObject version classes) objects → AreAscending objects
    → place + length (frames_bytes version objects) < 2 ^ 63 → Ascend 0 (placed version place objects)
pairs_ascend version classes objects place are ascending below = placed_ascend version classes objects place 0 are ascending (handles_positive version classes objects are) below

-- frames are written in bytes
pub frames_are_bytes : (version : Version) (classes : List Class) (objects : List ObjectValue) → AllByRecursion (IsValidObject version classes) objects → AreBytes (frames_bytes version objects)
frames_are_bytes version classes [] are = tt
frames_are_bytes version classes (object ∷ objects) are =
    let whole = valid_fits version classes object are.0 in
    bytes_joined (frame_bytes version object) (frames_bytes version objects) (frame_is_bytes version object whole.1 whole.2) (frames_are_bytes version classes objects are.1)

-- unknown sections are written in bytes
pub others_are_bytes : (others : List OtherValue) → AllByRecursion IsOther others → AreBytes (others_bytes others)
others_are_bytes [] are = tt
others_are_bytes (other ∷ others) are = bytes_joined other.bytes (others_bytes others) are.0.bytes (others_are_bytes others are.1)

-- each unknown section stands at its place
pub others_stand : (bytes : List ℕ) (others : List OtherValue) (place : ℕ) → AllByRecursion IsOther others → StandsAt bytes place (others_bytes others)
    → AreSectionsOf bytes (others_located place others) others
others_stand bytes [] place are stands = refl
others_stand bytes (other ∷ others) place are stands =
    inr (
      are.0.least,
      other,
      others,
      refl,
      record { number = refl; size = refl; stands = inr (stands_first bytes place other.bytes (others_bytes others) stands) },
      others_stand bytes others (place + length other.bytes) are.1 (stands_next bytes place other.bytes (others_bytes others) stands),
    )
