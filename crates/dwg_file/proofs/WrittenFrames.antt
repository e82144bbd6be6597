-- The frames of the canonical file as they are written, and where one of them lies among the others.
use Rattle.std.proofs.Common.{◌≡◌, refl, ap, subst, ℕ, ◌+◌, ◌≤◌, List, [], ◌∷◌, ◌++◌, length, length-append, arith}
use Rattle.dwg_base.specs.declared.version.Version.{Version}
use Rattle.std.specs.Prelude.{AllPairs}
use Rattle.std.specs.List.{AllByRecursion}
use Rattle.std.proofs.lemmas.List.Elements.{All-from_recursion}
use Rattle.std.proofs.lemmas.List.Kept.{AllPairs-cons}
use Rattle.dwg_base.specs.Bytes.{StandsAt}
use Rattle.dwg_base.specs.Devices.{MOST_BYTES}
use Rattle.dwg_classes.specs.declared.class.Class.{Class}
use Rattle.dwg_object.specs.Frames.{frame_bytes}
use Rattle.dwg_object.specs.Objects.{ObjectValue, handle_of}
use Rattle.dwg_object.proofs.StandingLemmas.{stands_first, stands_next}
use Rattle.dwg_object.specs.Written.{IsValidObject, body_bytes}
use Rattle.dwg_file.specs.Canonical.{Carried, IsCarried, canonical_with, frames_bytes, objects_place_with, size_with}
use Rattle.dwg_file.specs.CanonicalFrames.{canonical_frames_with, frames_from}
use Rattle.dwg_file.proofs.CanonicalFrames.{frames_after}
use Rattle.dwg_file.proofs.CanonicalHeader.{header_fits, pairs_head, pairs_tail}
use Rattle.dwg_file.proofs.CanonicalLaws.{parts_stand}
use Rattle.dwg_file.specs.Contents.{Contents}
use Rattle.dwg_file.specs.Spelled.{PairFrame}
use Rattle.dwg_file.specs.Valid.{IsValid}

-- the frame of an object as it is written
pub record IsWritten (version : Version) (classes : List Class) (bytes : List ℕ) (frame : PairFrame) : Type 0 where
  pub stands : StandsAt bytes frame.pair.place (frame_bytes version frame.object)
  pub ends : frame.end ≡ frame.pair.place + length (frame_bytes version frame.object)
  pub body : frame.body ≡ body_bytes version frame.object
  pub own : frame.pair.handle ≡ handle_of frame.object
  pub valid : IsValidObject version classes frame.object

-- frames one after the other are
frames_written : (version : Version) (classes : List Class) (bytes : List ℕ) (objects : List ObjectValue) (place : ℕ) → AllByRecursion (IsValidObject version classes) objects → StandsAt bytes place (frames_bytes version objects)
    → AllByRecursion (IsWritten version classes bytes) (frames_from version place objects)
frames_written version classes bytes [] place are stands = tt
frames_written version classes bytes (object ∷ objects) place are stands = (
  record { stands = stands_first bytes place (frame_bytes version object) (frames_bytes version objects) stands; ends = refl; body = refl; own = refl; valid = are.0 },
  frames_written version classes bytes objects (place + length (frame_bytes version object)) are.1 (stands_next bytes place (frame_bytes version object) (frames_bytes version objects) stands),
)

-- so are those of the canonical file
pub canonical_written : (carried : Carried) (drawing : Contents) → IsCarried carried → IsValid drawing → size_with carried drawing ≤ MOST_BYTES
    → AllByRecursion (IsWritten drawing.version drawing.classes (canonical_with carried drawing)) (canonical_frames_with carried drawing)
canonical_written carried drawing kept is small =
    frames_written drawing.version drawing.classes (canonical_with carried drawing) drawing.objects (objects_place_with carried drawing) is.objects (parts_stand carried drawing kept small (header_fits carried drawing is small)).frames

-- the frames before one of those that stand one after the other end before it, and those after it begin after its end
pub record LiesAmong (version : Version) (place : ℕ) (objects : List ObjectValue) (earlier : List PairFrame) (frame : PairFrame) (later : List PairFrame) : Type 0 where
  pub from : place ≤ frame.pair.place
  pub order : frame.pair.place ≤ frame.end
  pub to : frame.end ≤ place + length (frames_bytes version objects)
  pub before : AllByRecursion (λ (one : PairFrame). one.end ≤ frame.pair.place) earlier
  pub after : AllByRecursion (λ (one : PairFrame). frame.end ≤ one.pair.place) later

pub lies_among : (version : Version) (objects : List ObjectValue) (place : ℕ) (earlier : List PairFrame) (frame : PairFrame) (later : List PairFrame) → frames_from version place objects ≡ earlier ++ frame ∷ later
    → LiesAmong version place objects earlier frame later
lies_among version [] place [] frame later same = absurd cc
lies_among version [] place (one ∷ earlier) frame later same = absurd cc
lies_among version (object ∷ objects) place [] frame later same =
    let end : ℕ = place + length (frame_bytes version object) in
    let is : PairFrame = record { pair = record { handle = handle_of object; place = place }; body = body_bytes version object; end = end; object = object } in
    let first : is ≡ frame = cc in
    let rest : frames_from version end objects ≡ later = cc in
    let long : length (frames_bytes version (object ∷ objects)) ≡ length (frame_bytes version object) + length (frames_bytes version objects) = length-append (frame_bytes version object) (frames_bytes version objects) in
    let begins : place ≡ frame.pair.place = ap (λ (one : PairFrame). one.pair.place) first in
    let ends : end ≡ frame.end = ap (λ (one : PairFrame). one.end) first in
    record {
      from = omega (arith, begins);
      order = omega (arith, begins, ends);
      to = omega (arith, ends, long);
      before = tt;
      after =
          subst (AllByRecursion (λ (one : PairFrame). frame.end ≤ one.pair.place)) rest
          (subst (λ n. AllByRecursion (λ (one : PairFrame). n ≤ one.pair.place) (frames_from version end objects)) ends (frames_after version objects end end (omega arith)));
    }
lies_among version (object ∷ objects) place (one ∷ earlier) frame later same =
    let end : ℕ = place + length (frame_bytes version object) in
    let is : PairFrame = record { pair = record { handle = handle_of object; place = place }; body = body_bytes version object; end = end; object = object } in
    let first : is ≡ one = cc in
    let rest : frames_from version end objects ≡ earlier ++ frame ∷ later = cc in
    let more = lies_among version objects end earlier frame later rest in
    let long : length (frames_bytes version (object ∷ objects)) ≡ length (frame_bytes version object) + length (frames_bytes version objects) = length-append (frame_bytes version object) (frames_bytes version objects) in
    let ends : end ≡ one.end = ap (λ (one : PairFrame). one.end) first in
    record {
      from = omega (arith, more.from);
      order = more.order;
      to = omega (arith, more.to, long);
      before = (omega (arith, more.from, ends), more.before);
      after = more.after;
    }

-- what holds of all members holds of those of a prefix and of those after it
pub all_of_prefix : {X : Type 0} (P : X → Type 0) (prefix after : List X) → AllByRecursion P (prefix ++ after) → AllByRecursion P prefix × AllByRecursion P after
all_of_prefix P [] after all = (tt, all)
all_of_prefix P (x ∷ prefix) after all = let more = all_of_prefix P prefix after all.1 in ((all.0, more.0), more.1)

-- so does what holds of all pairs
pub pairs_of_prefix : {X : Type 0} (R : X → X → Type 0) (prefix after : List X) → AllPairs R (prefix ++ after) → AllPairs R prefix
pairs_of_prefix R [] after all = λ i j d before inside. absurd (omega arith)
pairs_of_prefix R (x ∷ prefix) after all =
    AllPairs-cons R x prefix (All-from_recursion (R x) prefix (all_of_prefix (R x) prefix after (pairs_head R x (prefix ++ after) all)).0)
    (pairs_of_prefix R prefix after (pairs_tail R x (prefix ++ after) all))
