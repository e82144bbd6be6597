-- The objects of an input are valid, and their frames are written by few bytes. A rule of this project.
use Rattle.std.proofs.Common.{◌≡◌, refl, ◌∙◌, ap, ℕ, ◌+◌, ◌*◌, ◌%◌, ◌^◌, ◌<◌, ◌≤◌, Bool, true, false, List, [], ◌∷◌, ◌++◌, length, length-append, arith}
use Rattle.dwg_base.specs.Versions.{version_at}
use Rattle.dwg_base.specs.declared.version.Version.{Version}
use Rattle.std.specs.Prelude.{nat_lt, map}
use Rattle.std.specs.List.{AllByRecursion}
use Rattle.std.specs.List.Sorted.{IsPermutation}
use Rattle.std.specs.Int.{w16, to_le_bytes}
use Rattle.std.proofs.lemmas.Bool.Decides.{nat_tests}
use Rattle.std.proofs.lemmas.List.Elements.{All-from_recursion, recursion_from_All}
use Rattle.std.proofs.lemmas.List.Sorted.{All-permutation}
use Rattle.dwg_base.specs.Bytes.{AreBytes}
use Rattle.dwg_base.specs.Devices.{MOST_BYTES}
use Rattle.dwg_bits.specs.Sink.{padding}
use Rattle.dwg_bits.proofs.PaddingLaw.{padding_fills}
use Rattle.dwg_bits.proofs.WholeBytes.{length_of_whole}
use Rattle.dwg_check.specs.CheckWord.{CHECK_SEED, check_word}
use Rattle.dwg_classes.specs.declared.class.Class.{Class}
use Rattle.dwg_classes.specs.Class.{AreClasses, numbered_class}
use Rattle.dwg_classes.proofs.WrittenClasses.{read_are_values}
use Rattle.dwg_grammar.specs.ModularCodes.{ms}
use Rattle.dwg_grammar.specs.ToEnd.{short_all}
use Rattle.dwg_object.specs.Objects.{ObjectValue}
use Rattle.dwg_object.specs.Written.{IsValidObject, body_bytes}
use Rattle.dwg_object.specs.Forms.{FormOf}
use Rattle.dwg_object.proofs.FormLaws.{form_is_valid, length_of_frame}
use Rattle.dwg_object.specs.Frames.{frame_bytes, FrameAt}
use Rattle.dwg_object.proofs.LengthLemmas.{length_of_one, length_of_two}
use Rattle.dwg_object.proofs.StandingLemmas.{stands_first, stands_next, stands_bytes, stands_within}
use Rattle.dwg_file.specs.Canonical.{class_content, frames_bytes, placed}
use Rattle.dwg_file.specs.Spelled.{PairFrame, IsFrameOfPair}
use Rattle.dwg_file.specs.ObjectSize.{IsReadOf}

-- a length below 2^30 is written by at most four bytes
pub size_short : (long : ℕ) → long < 2 ^ 30 → length (ms.short long) ≤ 4
size_short long small = of_test (nat_lt long 32768) refl
  where
    of_test : (test : Bool) → nat_lt long 32768 ≡ test → length (ms.short long) ≤ 4
    of_test true one = omega (arith, ap length (length_of_one long (grind (arith, nat_tests))))
    of_test false more = omega (arith, ap length (length_of_two long (grind (arith, nat_tests)) small))

-- an object that a drawing with these classes can have, with a body of no more than so many bytes
pub record IsSmall (version : Version) (classes : List Class) (most : ℕ) (object : ObjectValue) : Type 0 where
  pub valid : IsValidObject version classes object
  pub few : length (body_bytes version object) ≤ most

-- the body of a frame are bytes of the input, and no more than it has
body_within : (bytes : List ℕ) (place : ℕ) (body : List ℕ) (end : ℕ) → AreBytes bytes → FrameAt bytes place body end → AreBytes body × (length body ≤ length bytes)
body_within bytes place body end are is =
    let word : List ℕ = to_le_bytes w16 (check_word CHECK_SEED (is.size ++ body)) in
    let stands = stands_next bytes place is.size body (stands_first bytes place (is.size ++ body) word is.stands) in
    (stands_bytes bytes (place + length is.size) body are stands, omega (arith, stands_within bytes (place + length is.size) body stands))

-- the object of a frame in an input is read so
pub frame_is_read : (classes : List Class) (bytes : List ℕ) (place : ℕ) (body : List ℕ) (end : ℕ) (object : ObjectValue) → AreBytes bytes → length bytes ≤ MOST_BYTES
    → FrameAt bytes place body end → FormOf (version_at bytes) classes body object → IsReadOf (version_at bytes) classes object
frame_is_read classes bytes place body end object are few stands form =
    let within = body_within bytes place body end are stands in record { body = body; are = within.0; few = omega (arith, few, within.1); form = form }

-- so are the objects of frames
objects_are_read : (classes : List Class) (bytes : List ℕ) (frames : List PairFrame) → AreBytes bytes → length bytes ≤ MOST_BYTES → AllByRecursion (IsFrameOfPair classes bytes) frames
    → AllByRecursion (IsReadOf (version_at bytes) classes) (map (λ (frame : PairFrame). frame.object) frames)
objects_are_read classes bytes [] are few stand = tt
objects_are_read classes bytes (frame ∷ frames) are few stand = (
  frame_is_read classes bytes frame.pair.place frame.body frame.end frame.object are few stand.0.stands stand.0.form,
  objects_are_read classes bytes frames are few stand.1,
)

-- in any order
pub ordered_are_read : (classes : List Class) (bytes : List ℕ) (frames : List PairFrame) (objects : List ObjectValue) → AreBytes bytes → length bytes ≤ MOST_BYTES
    → AllByRecursion (IsFrameOfPair classes bytes) frames → IsPermutation (map (λ (frame : PairFrame). frame.object) frames) objects → AllByRecursion (IsReadOf (version_at bytes) classes) objects
ordered_are_read classes bytes frames objects are few stand same =
    let values : List ObjectValue = map (λ (frame : PairFrame). frame.object) frames in
    let read = IsReadOf (version_at bytes) classes in
    recursion_from_All read objects (All-permutation read values objects same (All-from_recursion read values (objects_are_read classes bytes frames are few stand)))

-- objects that are read so are small
pub read_small : (version : Version) (classes : List Class) (objects : List ObjectValue) → AllByRecursion (IsReadOf version classes) objects → AllByRecursion (IsSmall version classes MOST_BYTES) objects
read_small version classes [] read = tt
read_small version classes (object ∷ objects) read =
    let is = form_is_valid version classes read.0.body object read.0.are (omega (arith, read.0.few)) read.0.form in
    (record { valid = is.0; few = omega (arith, is.1, read.0.few) }, read_small version classes objects read.1)

-- small objects are valid
pub small_valid : (version : Version) (classes : List Class) (most : ℕ) (objects : List ObjectValue) → AllByRecursion (IsSmall version classes most) objects → AllByRecursion (IsValidObject version classes) objects
small_valid version classes most [] small = tt
small_valid version classes most (object ∷ objects) small = (small.0.valid, small_valid version classes most objects small.1)

-- a frame is written by at most six bytes more than its body
frame_short : (version : Version) (object : ObjectValue) → length (body_bytes version object) ≤ MOST_BYTES → length (frame_bytes version object) ≤ MOST_BYTES + 6
frame_short version object few = omega (arith, length_of_frame version object, size_short (length (body_bytes version object)) (omega arith))

-- the frames of small objects
pub frames_short : (version : Version) (classes : List Class) (objects : List ObjectValue) → AllByRecursion (IsSmall version classes MOST_BYTES) objects → length (frames_bytes version objects) ≤ 33554438 * length objects
frames_short version classes [] small = omega arith
frames_short version classes (object ∷ objects) small =
    omega (arith, frame_short version object small.0.few, length-append (frame_bytes version object) (frames_bytes version objects), frames_short version classes objects small.1)

-- as many pairs are placed as there are objects
pub length_of_placed : (version : Version) (place : ℕ) (objects : List ObjectValue) → length (placed version place objects) ≡ length objects
length_of_placed version place [] = refl
length_of_placed version place (object ∷ objects) = omega (arith, length_of_placed version (place + length (frame_bytes version object)) objects)

-- the content of classes is written by no more bytes than it was read of
pub classes_short : (content : List ℕ) (classes : List Class) → AreClasses content classes → length (class_content classes) ≤ length content
classes_short content classes are =
    let all : List Bool = short_all numbered_class classes in
    let fills = padding_fills all in
    let joined : length (all ++ padding all) ≡ length all + length (padding all) = length-append all (padding all) in
    let whole : length (all ++ padding all) % 8 ≡ 0 = ap (λ n. n % 8) joined ∙ fills.0 in
    let read : length all ≤ 8 * length content = (read_are_values content classes are).1 in
    shorter (length (class_content classes)) (length content) (length all) (length (padding all)) (length (all ++ padding all)) (length_of_whole (all ++ padding all) whole) joined read fills.1
  where
    shorter : (written content all fill both : ℕ) → both ≡ 8 * written → both ≡ all + fill → all ≤ 8 * content → fill < 8 → written ≤ content
    shorter written content all fill both a b c d = omega arith
