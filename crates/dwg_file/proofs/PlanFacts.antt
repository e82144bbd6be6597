-- What the parts of a valid drawing meet, so that they can be written.
use Rattle.std.proofs.Common.{◌≡◌, sym, ◌∙◌, ap, ap₂, subst, ℕ, ◌+◌, ◌*◌, ◌^◌, ◌<◌, ◌≤◌, List, [], ◌∷◌, ◌++◌, append_assoc, length, length-append, drop, get_or, map, arith}
use Rattle.dwg_base.specs.declared.version.Version.{Version}
use Rattle.std.specs.List.{AllByRecursion}
use Rattle.std.proofs.lemmas.List.{drop_all}
use Rattle.dwg_classes.specs.declared.class.Class.{Class}
use Rattle.dwg_classes.specs.WrittenClasses.{AreWritable}
use Rattle.dwg_classes.proofs.WrittenClasses.{read_are_writable}
use Rattle.dwg_object.specs.Written.{IsValidObject}
use Rattle.dwg_object.proofs.FormLaws.{valid_fits, length_of_frame}
use Rattle.dwg_object.specs.Frames.{frame_bytes}
use Rattle.dwg_object.specs.declared.object.Object.{Object}
use Rattle.dwg_object.specs.Objects.{ObjectValue, handle_of, value_of}
use Rattle.dwg_file.proofs.PlanLoops.{left_at}
use Rattle.dwg_objmap.specs.declared.pair.Pair.{Pair}
use Rattle.dwg_objmap.specs.Writing.{Ascend}
use Rattle.dwg_file.specs.Contents.{Contents}
use Rattle.dwg_file.specs.Canonical.{Carried, IsCarried, class_content, frames_bytes, placed, objects_place_with}
use Rattle.dwg_file.proofs.CanonicalLaws.{canonical_ascends}
use Rattle.dwg_file.proofs.CanonicalParts.{content_is_classes}
use Rattle.dwg_file.specs.Plans.{CanBeFramed, CanBeSent, FitsIn, HasRoom, IsPlan, room_of_frame}
use Rattle.dwg_sections.specs.declared.header.FileHeader.{FileHeader}
use Rattle.dwg_file.specs.Valid.{IsValid}

-- its classes can be written
pub valid_writable : (drawing : Contents) → IsValid drawing → AreWritable drawing.classes
valid_writable drawing is = read_are_writable (class_content drawing.classes) drawing.classes (content_is_classes drawing.classes is.classes)

-- valid objects can be framed
objects_framed : (version : Version) (classes : List Class) (objects : List ObjectValue) → AllByRecursion (IsValidObject version classes) objects → AllByRecursion (CanBeFramed version) objects
objects_framed version classes [] are = tt
objects_framed version classes (object ∷ objects) are =
    let whole = valid_fits version classes object are.0 in ((whole.0, whole.2), objects_framed version classes objects are.1)

-- so can its objects
pub valid_framed : (drawing : Contents) → IsValid drawing → AllByRecursion (CanBeFramed drawing.version) drawing.objects
valid_framed drawing is = objects_framed drawing.version drawing.classes drawing.objects is.objects

-- there are no more pairs than bytes of frames
placed_few : (version : Version) (objects : List ObjectValue) (place : ℕ) → length (placed version place objects) ≤ length (frames_bytes version objects)
placed_few version [] place = omega arith
placed_few version (object ∷ objects) place =
    omega (arith, placed_few version objects (place + length (frame_bytes version object)), length_of_frame version object, length-append (frame_bytes version object) (frames_bytes version objects))

-- its pairs ascend
pub pairs_ascend_from : (carried : Carried) (drawing : Contents) (from : ℕ) (objects : List ObjectValue) (pairs : List Pair) → IsCarried carried → IsValid drawing → from ≡ objects_place_with carried drawing → objects ≡ drawing.objects → pairs ≡ placed drawing.version from objects
    → Ascend 0 pairs
pairs_ascend_from carried drawing from objects pairs one is there these same =
    subst (Ascend 0) (sym (same ∙ ap₂ (placed drawing.version) there these)) (canonical_ascends carried drawing one is)

-- and are few
pub pairs_few : (drawing : Contents) (from : ℕ) (objects : List ObjectValue) (pairs : List Pair) → IsValid drawing → objects ≡ drawing.objects → pairs ≡ placed drawing.version from objects → length pairs < 2 ^ 58
pairs_few drawing from objects pairs is these same =
    let small = is.size in
    omega (arith, small, placed_few drawing.version objects from, ap length same, ap (λ (all : List ObjectValue). length (frames_bytes drawing.version all)) these)

-- valid objects that fit in some room can be sent with it
pub objects_sent : (version : Version) (classes : List Class) (objects : List ObjectValue) (part room : ℕ) → 8 * part ≤ room → AllByRecursion (IsValidObject version classes) objects → AllByRecursion (FitsIn version part) objects
    → AllByRecursion (CanBeSent version room) objects
objects_sent version classes [] part room within are fit = tt
objects_sent version classes (object ∷ objects) part room within are fit =
    let whole = valid_fits version classes object are.0 in
    (record { framed = (whole.0, whole.2); are = whole.1; fits = omega (arith, within, fit.0) }, objects_sent version classes objects part room within are.1 fit.1)

-- an object that can be sent with some room can be with more
pub sent_with_more : (version : Version) (room more : ℕ) (value : ObjectValue) → room ≤ more → CanBeSent version room value → CanBeSent version more value
sent_with_more version room more value fits can = record { framed = can.framed; are = can.are; fits = omega (arith, fits, can.fits) }

-- what fits in some room, with those after it, is all that is left
pub one_fits : (version : Version) (objects : List Object) (i : ℕ) (object : Object) (most room : ℕ) → i < length objects → object ≡ get_or objects i object → room ≡ room_of_frame version (value_of object) → room ≤ most
    → AllByRecursion (FitsIn version most) (map value_of (drop (i + 1) objects)) → AllByRecursion (FitsIn version most) (map value_of (drop i objects))
one_fits version objects i object most room inside here is within left =
    subst (λ (all : List Object). AllByRecursion (FitsIn version most) (map value_of all)) (sym (left_at objects i object inside here)) (omega (arith, is, within), left)

-- where none is left, what is left fits
pub none_left_fits : (version : Version) (objects : List Object) (i most : ℕ) → length objects ≤ i → AllByRecursion (FitsIn version most) (map value_of (drop i objects))
none_left_fits version objects i most past = subst (λ (all : List Object). AllByRecursion (FitsIn version most) (map value_of all)) (sym (drop_all i objects past)) tt

-- with one more object placed, those after it are left
pub placed_one : (version : Version) (objects : List Object) (i : ℕ) (object : Object) (from place frame handle : ℕ) (pairs more : List Pair) → i < length objects → object ≡ get_or objects i object
    → frame ≡ length (frame_bytes version (value_of object)) → handle ≡ handle_of (value_of object) → more ≡ pairs ++ record { handle = handle; place = place } ∷ []
    → placed version from (map value_of objects) ≡ pairs ++ placed version place (map value_of (drop i objects)) → placed version from (map value_of objects) ≡ more ++ placed version (place + frame) (map value_of (drop (i + 1) objects))
placed_one version objects i object from place frame handle pairs more inside here long named put whole =
    let left : List ObjectValue = map value_of (drop (i + 1) objects) in
    let pair_of : ℕ → Pair = λ own. record { handle = own; place = place } in
    let others : List Pair = placed version (place + length (frame_bytes version (value_of object))) left in
    let same : pairs ++ pair_of (handle_of (value_of object)) ∷ [] ≡ more = ap (λ own. pairs ++ pair_of own ∷ []) (sym named) ∙ sym put in
    whole ∙ ap (λ (all : List Object). pairs ++ placed version place (map value_of all)) (left_at objects i object inside here)
    ∙ sym (append_assoc pairs (pair_of (handle_of (value_of object)) ∷ []) others)
    ∙ ap₂ (λ (prefix : List Pair) (n : ℕ). prefix ++ placed version (place + n) left) same (sym long)

-- so can all
pub all_with_more : (version : Version) (room more : ℕ) (objects : List ObjectValue) → room ≤ more → AllByRecursion (CanBeSent version room) objects → AllByRecursion (CanBeSent version more) objects
all_with_more version room more [] within can = tt
all_with_more version room more (object ∷ objects) within can = (sent_with_more version room more object within can.0, all_with_more version room more objects within can.1)

-- and room for each part is there with more
pub has_with_more : (carried : Carried) (room more : ℕ) (drawing : Contents) → room ≤ more → HasRoom carried room drawing → HasRoom carried more drawing
has_with_more carried room more drawing within has = record {
  header = omega (arith, within, has.header);
  preview = omega (arith, within, has.preview);
  classes = omega (arith, within, has.classes);
  objects = all_with_more drawing.version room more drawing.objects within has.objects;
}

-- a plan with some room is one with more
pub plan_with_more : (carried : Carried) (drawing : Contents) (pairs : List Pair) (size : ℕ) (header : FileHeader) (room more : ℕ) → room ≤ more → IsPlan carried drawing pairs size header room
    → IsPlan carried drawing pairs size header more
plan_with_more carried drawing pairs size header room more within plan =
    let ready = plan.ready in
    record {
      ready = record { valid = ready.valid; is = ready.is; small = ready.small; is_header = ready.is_header; has = has_with_more carried room more drawing within ready.has };
      are_placed = plan.are_placed;
      is_size = plan.is_size;
    }
