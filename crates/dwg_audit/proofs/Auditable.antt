-- The objects of a valid drawing can be audited.
use Rattle.std.proofs.Common.{◌≡◌, sym, subst, ◌+◌, ◌≤◌, List, [], ◌∷◌, length, length-append, arith}
use Rattle.std.specs.List.{AllByRecursion}
use Rattle.std.proofs.lemmas.List.{length-map, get_or-map, get_or_default}
use Rattle.std.proofs.lemmas.List.Sums.{sum_by-cons}
use Rattle.dwg_audit.specs.Auditable.{CanBeAudited}
use Rattle.dwg_file.specs.Canonical.{frames_bytes}
use Rattle.dwg_file.specs.Contents.{Contents}
use Rattle.dwg_file.specs.Spelled.{AreAscending}
use Rattle.dwg_file.specs.Valid.{IsValid}
use Rattle.dwg_graph.specs.Claimed.{reference_count}
use Rattle.dwg_graph.specs.Places.{Ascend, handles_of}
use Rattle.dwg_graph.specs.SlotLaws.{SlotsAreFew}
use Rattle.dwg_graph.specs.Slots.{slots}
use Rattle.dwg_object.specs.Frames.{frame_bytes}
use Rattle.dwg_object.specs.Objects.{ObjectValue, TypedValue, PlainValue, RawValue, handle_of}
use Rattle.dwg_object.specs.Written.{IsWhole, IsValidObject}

-- the handles of ascending objects ascend
handles_ascend : (objects : List ObjectValue) → AreAscending objects → Ascend (handles_of objects)
handles_ascend [] ascending i j d before within = absurd (omega arith)
handles_ascend (x ∷ xs) ascending i j d before within =
    let long : length (handles_of (x ∷ xs)) ≡ length (x ∷ xs) = length-map (x ∷ xs) handle_of in
    omega (
      arith,
      ascending i j x before (omega (arith, long)),
      get_or_default (handles_of (x ∷ xs)) i d (handle_of x) (omega arith),
      get_or_default (handles_of (x ∷ xs)) j d (handle_of x) within,
      get_or-map handle_of (x ∷ xs) i x,
      get_or-map handle_of (x ∷ xs) j x,
    )

-- an object that a drawing can have is whole
object_is_whole : (drawing : Contents) (object : ObjectValue) → IsValidObject drawing.version drawing.classes object → IsWhole object
object_is_whole drawing (TypedValue number handle common body) is = is.0.whole
object_is_whole drawing (PlainValue number handle common rest refs) is = is.0.whole
object_is_whole drawing (RawValue number handle bytes) is = is.0.whole

-- and so are all of them
objects_are_whole : (drawing : Contents) (objects : List ObjectValue) → AllByRecursion (IsValidObject drawing.version drawing.classes) objects → AllByRecursion IsWhole objects
objects_are_whole drawing [] are = tt
objects_are_whole drawing (object ∷ objects) are = (object_is_whole drawing object are.0, objects_are_whole drawing objects are.1)

-- references are counted object by object
count_more : (object : ObjectValue) (objects : List ObjectValue) → reference_count (object ∷ objects) ≡ length (slots object) + reference_count objects
unfolding reference_count
count_more object objects = sum_by-cons (λ x. length (slots x)) object objects

-- objects and their references are no more than the bytes of their frames
references_few : SlotsAreFew → (drawing : Contents) (objects : List ObjectValue) → AllByRecursion (IsValidObject drawing.version drawing.classes) objects
    → length objects + reference_count objects ≤ length (frames_bytes drawing.version objects)
unfolding reference_count
references_few few drawing [] are = omega arith
references_few few drawing (object ∷ objects) are =
    omega (
      arith,
      few drawing.version drawing.classes object are.0,
      references_few few drawing objects are.1,
      count_more object objects,
      length-append (frame_bytes drawing.version object) (frames_bytes drawing.version objects),
    )

-- the objects of a valid drawing can be audited, since their slots are few
pub can_be_audited : SlotsAreFew → (drawing : Contents) → IsValid drawing → CanBeAudited drawing.objects
can_be_audited few drawing is = record {
  ascending = handles_ascend drawing.objects is.ascending;
  whole = objects_are_whole drawing drawing.objects is.objects;
  few = let small = is.size in omega (arith, references_few few drawing drawing.objects is.objects);
}

-- and so can objects in hand that stand for them
pub are_auditable : SlotsAreFew → (drawing : Contents) (objects : List ObjectValue) → objects ≡ drawing.objects → IsValid drawing → CanBeAudited objects
are_auditable few drawing objects same is = subst CanBeAudited (sym same) (can_be_audited few drawing is)
