-- Objects sorted by their handles, which are distinct, ascend.
use Rattle.std.proofs.Common.{◌≡◌, ◌≢◌, refl, sym, ◌∙◌, ap, subst, ℕ, ◌<◌, ◌≤◌, List, [], ◌∷◌, length, map, get_or, ◌==◌, arith}
use Rattle.std.specs.Prelude.{AllPairs, Ok}
use Rattle.std.specs.List.Sorted.{IsPermutation, IsNonDecreasingBy}
use Rattle.std.proofs.lemmas.Bool.Decides.{Decides-eqb, nat_tests}
use Rattle.std.proofs.lemmas.List.{get_or-map, get_or_default, length-map}
use Rattle.std.proofs.lemmas.List.Sorted.{IsPermutation-map}
use Rattle.std.proofs.lemmas.Map.Keys.{IsDistinct-IsPermutation}
use Rattle.std.proofs.lemmas.Map.Made.{AllPairs-from_IsDistinct, IsDistinct-from_AllPairs}
use Rattle.dwg_base.specs.Refusals.{Tried}
use Rattle.dwg_classes.specs.declared.class.Class.{Class}
use Rattle.dwg_object.specs.declared.object.Object.{Object}
use Rattle.dwg_object.specs.Objects.{ObjectValue, value_of, handle_of}
use Rattle.dwg_objmap.specs.Pages.{AreHandles}
use Rattle.dwg_file.specs.declared.frames.Frames.{Frames}
use Rattle.dwg_file.specs.FileLines.{FoundFrame}
use Rattle.dwg_file.specs.FrameReading.{values_of, AnswersFrames, AnswersObjects}
use Rattle.dwg_file.proofs.ObjectOrder.{order_once}
use Rattle.dwg_file.specs.SortedObjects.{sorted}
use Rattle.dwg_file.proofs.SortedObjects.{sorted_same, sorted_ascends, distinct_objects}
use Rattle.dwg_file.specs.Spelled.{AreAscending}

-- handles no two of which are the same
apart_handles : (handles : List ℕ) → AreHandles handles → AllPairs (λ x y. x ≢ y) handles
apart_handles handles are i j d before within same =
    are.distinct i j before within (get_or_default handles i 0 d (omega arith) ∙ same ∙ get_or_default handles j d 0 within)

-- the test of numbers turns around
turned : (x y : ℕ) → (x == y) ≡ (y == x)
turned x y = grind (arith, nat_tests)

-- and they stay so in any order
apart_ordered : (handles others : List ℕ) → AreHandles handles → IsPermutation handles others → AllPairs (λ x y. x ≢ y) others
apart_ordered handles others are same =
    AllPairs-from_IsDistinct {eq = ◌==◌} Decides-eqb others
    (IsDistinct-IsPermutation (◌==◌) turned handles others same (IsDistinct-from_AllPairs {eq = ◌==◌} Decides-eqb handles (apart_handles handles are)))

-- the handles of values do not fall where those of objects do not
not_falling : (objects : List Object) → IsNonDecreasingBy (λ object. handle_of (value_of object)) objects → (i j : ℕ) (d : ObjectValue) → i < j → j < length (values_of objects)
    → handle_of (get_or (values_of objects) i d) ≤ handle_of (get_or (values_of objects) j d)
not_falling [] all i j d before within = absurd (omega arith)
not_falling (first ∷ objects) all i j d before within =
    let there : j < length (first ∷ objects) = omega (arith, length-map (first ∷ objects) value_of) in
    let one : get_or (values_of (first ∷ objects)) i d ≡ value_of (get_or (first ∷ objects) i first) = get_or-map value_of (first ∷ objects) i first d (omega arith) in
    let other : get_or (values_of (first ∷ objects)) j d ≡ value_of (get_or (first ∷ objects) j first) = get_or-map value_of (first ∷ objects) j first d there in
    omega (arith, ap handle_of one, ap handle_of other, all i j first (omega arith) there)

-- objects that do not fall, with distinct handles, ascend
pub ascending_objects : (objects ordered : List Object) (handles : List ℕ) → AreHandles handles → map handle_of (values_of objects) ≡ handles → IsPermutation objects ordered
    → IsNonDecreasingBy (λ object. handle_of (value_of object)) ordered → AreAscending (values_of ordered)
ascending_objects objects ordered handles are own same ascend i j d before within =
    let moved : IsPermutation handles (map handle_of (values_of ordered)) =
    subst (λ (h : List ℕ). IsPermutation h (map handle_of (values_of ordered))) own
    (IsPermutation-map handle_of (values_of objects) (values_of ordered) (IsPermutation-map value_of objects ordered same)) in
    let there : j < length (map handle_of (values_of ordered)) = omega (arith, length-map (values_of ordered) handle_of) in
    let one : get_or (map handle_of (values_of ordered)) i 0 ≡ handle_of (get_or (values_of ordered) i d) = get_or-map handle_of (values_of ordered) i d 0 (omega arith) in
    let other : get_or (map handle_of (values_of ordered)) j 0 ≡ handle_of (get_or (values_of ordered) j d) = get_or-map handle_of (values_of ordered) j d 0 within in
    let differ : get_or (map handle_of (values_of ordered)) i 0 ≢ get_or (map handle_of (values_of ordered)) j 0 = apart_ordered handles (map handle_of (values_of ordered)) are moved i j 0 before there in
    omega (arith, one, other, differ, not_falling ordered ascend i j d before within)

-- objects in an order
pub record AreOrdered (objects list : List Object) : Type 0 where
  pub same : IsPermutation (values_of objects) (values_of list)
  pub ascending : AreAscending (values_of list)
  pub is_sorted : values_of list ≡ sorted (values_of objects)

-- objects that do not fall, with distinct handles, are those that are put in their places
pub objects_ordered : (objects ordered list : List Object) → AreHandles (map handle_of (values_of objects)) → IsPermutation objects ordered
    → IsNonDecreasingBy (λ object. handle_of (value_of object)) ordered → list ≡ ordered → AreOrdered objects list
objects_ordered objects ordered list are same ascend is =
    let values : List ObjectValue = values_of objects in
    let moved : IsPermutation values (values_of ordered) = IsPermutation-map value_of objects ordered same in
    let up : AreAscending (values_of ordered) = ascending_objects objects ordered (map handle_of values) are refl same ascend in
    subst (AreOrdered objects) (sym is) (record {
      same = moved;
      ascending = up;
      is_sorted = order_once values (values_of ordered) (sorted values) moved (sorted_same values) up (sorted_ascends values (distinct_objects values are.distinct));
    })

-- objects of frames that were read, in order, are those of the frames
pub objects_answered : (classes : List Class) (bytes : List ℕ) (tried : Tried (List FoundFrame)) (read : Frames) (list : List Object) → AnswersFrames classes bytes tried (Ok read)
    → IsPermutation (values_of read.objects.items) (values_of list) → AreAscending (values_of list) → AnswersObjects classes bytes tried (Ok (record { objects = list; frames = read.frames }))
objects_answered classes bytes tried read list answers same ascend =
    (answers.0, answers.1, record { values = values_of read.objects.items; forms = answers.2; same = same; ascending = ascend }, answers.3)
