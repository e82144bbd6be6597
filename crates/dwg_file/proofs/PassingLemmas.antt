-- Where no line fails, an input spells a drawing.
use Rattle.std.proofs.Common.{◌≡◌, refl, sym, ◌∙◌, ap, ap₂, subst, ℕ, List, [], ◌∷◌, ◌++◌, None, Ok}
use Rattle.dwg_base.specs.Versions.{version_at}
use Rattle.dwg_base.specs.declared.version.Version.{Version}
use Rattle.std.specs.Prelude.{map}
use Rattle.std.specs.Result.{result_unwrap_or}
use Rattle.std.specs.List.Sorted.{IsPermutation}
use Rattle.dwg_base.specs.Bytes.{AreBytes}
use Rattle.dwg_base.specs.Refusals.{Tried, first_fault}
use Rattle.dwg_classes.specs.declared.class.Class.{Class}
use Rattle.dwg_bits.specs.Bits.{bits}
use Rattle.dwg_object.specs.Objects.{HeadParts, ObjectValue, handle_of}
use Rattle.dwg_object.specs.Heads.{HasHead}
use Rattle.dwg_object.proofs.FormLaws.{form_at, form_is_at}
use Rattle.dwg_object.specs.FrameLines.{span_body}
use Rattle.dwg_objmap.specs.declared.pair.Pair.{Pair}
use Rattle.dwg_objmap.specs.Pages.{AreHandles, handles_of}
use Rattle.dwg_objmap.proofs.MapLemmas.{map_is_tried}
use Rattle.dwg_file.specs.FileLines.{ALL_LINES, FoundFrame, section_place, classes_tried, map_tried, frames_after, frames_tried}
use Rattle.dwg_file.specs.ReadAs.{AreFormsOf, ReadsAs}
use Rattle.dwg_file.specs.Spelled.{Spelled, AreAscending}
use Rattle.dwg_file.proofs.PassingLines.{each_holds, ok_of_fault}
use Rattle.dwg_file.proofs.FramesFound.{AreFound, frames_found}
use Rattle.dwg_file.proofs.FramesSpelled.{own_of_head}
use Rattle.dwg_file.proofs.ReadingLemmas.{SectionLaws, reads_spelled}
use Rattle.dwg_file.specs.DrawingAt.{objects_at, classes_at, drawing_at}
use Rattle.dwg_file.specs.SortedObjects.{sorted}
use Rattle.dwg_file.proofs.SortedObjects.{sorted_same, sorted_ascends, distinct_objects}

-- every frame that is found is read
pub forms_at : (classes : List Class) (bytes : List ℕ) (earlier : List FoundFrame) (pairs : List Pair) (founds : List FoundFrame) → AreFound bytes earlier pairs founds
    → AreFormsOf classes bytes founds (objects_at classes bytes founds)
forms_at classes bytes earlier [] founds none = subst (λ (f : List FoundFrame). AreFormsOf classes bytes f (objects_at classes bytes f)) (sym none) refl
forms_at classes bytes earlier (pair ∷ pairs) founds (found, after, is, first, more) =
    subst (λ (f : List FoundFrame). AreFormsOf classes bytes f (objects_at classes bytes f)) (sym is) (
      form_at (version_at bytes) classes (span_body bytes found.0),
      objects_at classes bytes after,
      refl,
      form_is_at (version_at bytes) classes (span_body bytes found.0) found.1 first.head,
      forms_at classes bytes (earlier ++ found ∷ []) pairs after more,
    )

-- a body with a head is read as an object of its handle
own_at : (version : Version) (classes : List Class) (body : List ℕ) (parts : HeadParts) → HasHead version (bits body) parts → handle_of (form_at version classes body) ≡ parts.own
own_at version classes body parts has = own_of_head version classes body (form_at version classes body) parts (form_is_at version classes body parts has) has

-- with the handles of the pairs
handles_at : (classes : List Class) (bytes : List ℕ) (earlier : List FoundFrame) (pairs : List Pair) (founds : List FoundFrame) → AreFound bytes earlier pairs founds
    → map handle_of (objects_at classes bytes founds) ≡ handles_of pairs
handles_at classes bytes earlier [] founds none = ap (λ (f : List FoundFrame). map handle_of (objects_at classes bytes f)) none
handles_at classes bytes earlier (pair ∷ pairs) founds (found, after, is, first, more) =
    ap (λ (f : List FoundFrame). map handle_of (objects_at classes bytes f)) is
    ∙ ap₂ (λ one back. one ∷ back) (own_at (version_at bytes) classes (span_body bytes found.0) found.1 first.head ∙ first.own) (handles_at classes bytes (earlier ++ found ∷ []) pairs after more)

-- where no line fails the drawing by its places is read
pub drawing_is_read : (bytes : List ℕ) → AreBytes bytes → first_fault ALL_LINES bytes ≡ None → ReadsAs (drawing_at bytes) bytes
unfolding map_tried frames_tried drawing_at
drawing_is_read bytes are none =
    let each = each_holds bytes none in
    let classes = ok_of_fault (classes_tried bytes) each.classes in
    let mapped = ok_of_fault (map_tried bytes) each.map in
    let frames = ok_of_fault (frames_tried bytes) each.frames in
    let found = frames_found bytes 0 [] mapped.0 frames.0 are (ap (λ (tried : Tried (List Pair)). frames_after bytes 0 [] (result_unwrap_or tried [])) (sym mapped.1) ∙ frames.1) in
    let known : result_unwrap_or (frames_tried bytes) [] ≡ found.0 = ap (λ (tried : Tried (List FoundFrame)). result_unwrap_or tried []) frames.1 ∙ found.1 in
    let values = objects_at (classes_at bytes) bytes found.0 in
    let same : values ≡ objects_at (classes_at bytes) bytes (result_unwrap_or (frames_tried bytes) []) = ap (objects_at (classes_at bytes) bytes) (sym known) in
    let stands = (map_is_tried (section_place 2 bytes) bytes mapped.0 are).0 mapped.1 in
    let handles : AreHandles (map handle_of values) = subst AreHandles (sym (handles_at (classes_at bytes) bytes [] mapped.0 found.0 found.2)) stands.handles in
    record {
      holds = none;
      version = refl;
      lead = refl;
      mark = refl;
      code_page = refl;
      variables = refl;
      classes = classes.1 ∙ ap Ok (sym (ap (λ (tried : Tried (List Class)). result_unwrap_or tried []) classes.1));
      found = frames.0;
      frames = frames.1;
      values = values;
      forms = subst (λ (f : List FoundFrame). AreFormsOf (classes_at bytes) bytes f values) (sym found.1) (forms_at (classes_at bytes) bytes [] mapped.0 found.0 found.2);
      objects = subst (λ (v : List ObjectValue). IsPermutation values (sorted v)) same (sorted_same values);
      ascending = subst (λ (v : List ObjectValue). AreAscending (sorted v)) same (sorted_ascends values (distinct_objects values handles.distinct));
      others = refl;
    }

-- so where no line fails it is spelled
pub passing_is_spelled : SectionLaws → (bytes : List ℕ) → AreBytes bytes → first_fault ALL_LINES bytes ≡ None → Spelled (drawing_at bytes) bytes
passing_is_spelled laws bytes are none = reads_spelled laws (drawing_at bytes) bytes are (drawing_is_read bytes are none)
