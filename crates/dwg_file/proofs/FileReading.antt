-- The lines over a whole file, group by group, and what is read where none fails.
use Rattle.std.proofs.Common.{◌≡◌, sym, ◌∙◌, ap, ap₂, ℕ, List, [], ◌∷◌, Option, Some, None}
use Rattle.std.specs.Prelude.{map, Ok, Err}
use Rattle.std.specs.Option.{option_or}
use Rattle.std.specs.Result.{result_unwrap_or}
use Rattle.dwg_base.specs.Refusals.{Tried, first_fault, fault_of, Reports, Answers}
use Rattle.dwg_base.specs.Refusal.{Refusal}
use Rattle.dwg_base.specs.declared.refusal.Fault.{Fault}
use Rattle.dwg_base.specs.declared.refusal.Fault.TheVariants.{NoMemory, Refused}
use Rattle.dwg_classes.specs.declared.class.Class.{Class}
use Rattle.dwg_objmap.specs.declared.pair.Pair.{Pair}
use Rattle.dwg_file.specs.declared.objects.FramedObjects.{FramedObjects}
use Rattle.dwg_file.specs.FileLines.{FoundFrame, map_tried, map_row, frames_after, frames_tried, frames_row}
use Rattle.dwg_file.specs.FrameReading.{values_of, AnswersObjects, AreObjectsIn}
use Rattle.dwg_file.specs.ObjectFrames.{frame_of}

-- the frames of the map's pairs
frames_of : (bytes : List ℕ) (pairs slice : List Pair) → map_tried bytes ≡ Ok pairs → slice ≡ pairs → frames_tried bytes ≡ frames_after bytes 0 [] slice
unfolding frames_tried
frames_of bytes pairs slice tried same =
    ap (λ (t : Tried (List Pair)). frames_after bytes 0 [] (result_unwrap_or t [])) tried ∙ ap (frames_after bytes 0 []) (sym same)

-- the objects of these frames are those of the file
pub objects_in : (classes : List Class) (bytes : List ℕ) (pairs slice : List Pair) (read : FramedObjects) → map_tried bytes ≡ Ok pairs → slice ≡ pairs
    → AnswersObjects classes bytes (frames_after bytes 0 [] slice) (Ok read) → AreObjectsIn classes bytes (values_of read.objects)
objects_in classes bytes pairs slice read tried same answers = (answers.0, frames_of bytes pairs slice tried same ∙ answers.1, answers.2)

-- and the frames that are listed are those of its map
pub frames_in : (classes : List Class) (bytes : List ℕ) (pairs slice : List Pair) (read : FramedObjects) → map_tried bytes ≡ Ok pairs → slice ≡ pairs
    → AnswersObjects classes bytes (frames_after bytes 0 [] slice) (Ok read) → read.frames ≡ map frame_of (result_unwrap_or (frames_tried bytes) [])
frames_in classes bytes pairs slice read tried same answers =
    answers.3 ∙ ap (λ (t : Tried (List FoundFrame)). map frame_of (result_unwrap_or t [])) (sym (frames_of bytes pairs slice tried same ∙ answers.1))

-- a map whose pairs were read has no line that fails
map_holds : (bytes : List ℕ) (pairs : List Pair) → map_tried bytes ≡ Ok pairs → map_row bytes ≡ None
unfolding map_row
map_holds bytes pairs tried = ap fault_of tried

-- frames that were found have none either
frames_hold : (bytes : List ℕ) (found : List FoundFrame) → frames_tried bytes ≡ Ok found → frames_row bytes ≡ None
unfolding frames_row
frames_hold bytes found tried = ap fault_of tried

-- no line on the map or on a frame fails where the objects were read
pub objects_hold : (classes : List Class) (bytes : List ℕ) (pairs slice : List Pair) (read : FramedObjects) → map_tried bytes ≡ Ok pairs → slice ≡ pairs
    → AnswersObjects classes bytes (frames_after bytes 0 [] slice) (Ok read) → first_fault (map_row ∷ frames_row ∷ []) bytes ≡ None
objects_hold classes bytes pairs slice read tried same answers =
    ap₂ (λ (one other : Option Refusal). option_or one (option_or other None)) (map_holds bytes pairs tried)
    (frames_hold bytes answers.0 (frames_of bytes pairs slice tried same ∙ answers.1))

-- a map that is refused is refused by the first of its lines
pub map_refused : (bytes : List ℕ) (fault : Fault) → Answers {V = List Pair} (Err fault) (map_tried bytes) → Reports fault (first_fault (map_row ∷ frames_row ∷ []) bytes)
unfolding map_row
map_refused bytes NoMemory answers = tt
map_refused bytes (Refused refusal) answers = ap (λ (t : Tried (List Pair)). option_or (fault_of t) (option_or (frames_row bytes) None)) answers

-- frames that are refused are refused by the first of theirs
frames_reported : (bytes : List ℕ) (refusal : Refusal) → frames_tried bytes ≡ Err refusal → frames_row bytes ≡ Some refusal
unfolding frames_row
frames_reported bytes refusal tried = ap fault_of tried

pub objects_reported : (classes : List Class) (bytes : List ℕ) (pairs slice : List Pair) (fault : Fault) → map_tried bytes ≡ Ok pairs → slice ≡ pairs
    → AnswersObjects classes bytes (frames_after bytes 0 [] slice) (Err fault) → Reports fault (first_fault (map_row ∷ frames_row ∷ []) bytes)
objects_reported classes bytes pairs slice NoMemory tried same answers = tt
objects_reported classes bytes pairs slice (Refused refusal) tried same answers =
    ap₂ (λ (one other : Option Refusal). option_or one (option_or other None)) (map_holds bytes pairs tried)
    (frames_reported bytes refusal (frames_of bytes pairs slice tried same ∙ answers))
