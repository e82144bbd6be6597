-- What the steps of reading frames do to what is left to try. A rule of this project.
use Rattle.std.specs.Prelude.{◌≡◌, ⊤, ℕ, List, [], ◌∷◌, ◌++◌, map, Result, Ok, Err}
use Rattle.dwg_base.specs.Versions.{version_at}
use Rattle.std.specs.List.Sorted.{IsPermutation}
use Rattle.dwg_base.specs.Refusals.{Tried}
use Rattle.dwg_base.specs.declared.refusal.Fault.{Fault}
use Rattle.dwg_base.specs.declared.refusal.Fault.TheVariants.{NoMemory, Refused}
use Rattle.dwg_classes.specs.declared.class.Class.{Class}
use Rattle.dwg_object.specs.declared.frame.Found.{Found}
use Rattle.dwg_object.specs.declared.object.Object.{Object}
use Rattle.dwg_object.specs.Forms.{FormOf}
use Rattle.dwg_object.specs.FrameLines.{span_body}
use Rattle.dwg_object.specs.Objects.{ObjectValue, value_of, handle_of}
use Rattle.dwg_objmap.specs.declared.pair.Pair.{Pair}
use Rattle.dwg_file.specs.declared.frames.Frames.{Frames}
use Rattle.dwg_file.specs.declared.objects.FramedObjects.{FramedObjects}
use Rattle.dwg_file.specs.FileLines.{FoundFrame, touches, frames_tried}
use Rattle.dwg_file.specs.ObjectFrames.{frame_of}
use Rattle.dwg_file.specs.ReadAs.{AreFormsOf}
use Rattle.dwg_file.specs.Spelled.{AreAscending}
use Rattle.dwg_file.specs.ByteRanges.{Run, shares}

-- the runs are the bytes of the frames
abbrev pub AreRanges : List FoundFrame → List Run → Type 0
AreRanges earlier taken = (from end : ℕ) → touches earlier from end ≡ shares taken from end

-- what was found is the frame of a pair: its span, its head with the pair's own handle, and the object that its body is read as, which has this handle too
pub record IsFrameFound (classes : List Class) (bytes : List ℕ) (pair : Pair) (tried : Tried FoundFrame) (found : Found) : Type 0 where
  pub frame : FoundFrame
  pub tries : tried ≡ Ok frame
  pub from : frame.0.from ≡ pair.place
  pub end : frame.0.end ≡ found.end
  pub head : frame.1.own ≡ pair.handle
  pub form : FormOf (version_at bytes) classes (span_body bytes frame.0) (value_of found.object)
  pub own : handle_of (value_of found.object) ≡ pair.handle

-- a call answers the frame of a pair, or its refusal; out of memory reports nothing
abbrev pub AnswersPair : List Class → List ℕ → Pair → Tried FoundFrame → Result Found Fault → Type 0
AnswersPair classes bytes pair tried (Ok found) = IsFrameFound classes bytes pair tried found
AnswersPair classes bytes pair tried (Err NoMemory) = ⊤
AnswersPair classes bytes pair tried (Err (Refused refusal)) = tried ≡ Err refusal

-- the values of objects in hand
abbrev pub values_of : List Object → List ObjectValue
values_of objects = map value_of objects

-- frames were read: their bytes are taken, they are listed, and their bodies are read as the objects, which have these handles
pub record HasRead (classes : List Class) (bytes : List ℕ) (earlier : List FoundFrame) (handles : List ℕ) (read : Frames) : Type 0 where
  pub touched : AreRanges earlier read.taken
  pub listed : read.frames ≡ map frame_of earlier
  pub forms : AreFormsOf classes bytes earlier (values_of read.objects.items)
  pub own : map handle_of (values_of read.objects.items) ≡ handles

-- a step goes on to the next pair: the frame of this pair was read too, or its refusal is reported; out of memory reports nothing
abbrev pub GoesOn : List Class → List ℕ → List FoundFrame → List ℕ → Pair → Tried FoundFrame → Result Frames Fault → Type 0
GoesOn classes bytes earlier handles pair tried (Ok more) =
    (found : FoundFrame) × (tried ≡ Ok found) × HasRead classes bytes (earlier ++ found ∷ []) (handles ++ pair.handle ∷ []) more
GoesOn classes bytes earlier handles pair tried (Err NoMemory) = ⊤
GoesOn classes bytes earlier handles pair tried (Err (Refused refusal)) = tried ≡ Err refusal

-- a call answers the frames of pairs: they are listed, and their bodies are read as the objects; or the first refusal; out of memory reports nothing
abbrev pub AnswersFrames : List Class → List ℕ → Tried (List FoundFrame) → Result Frames Fault → Type 0
AnswersFrames classes bytes tried (Ok read) =
    (found : List FoundFrame) × (tried ≡ Ok found) × AreFormsOf classes bytes found (values_of read.objects.items) × (read.frames ≡ map frame_of found)
AnswersFrames classes bytes tried (Err NoMemory) = ⊤
AnswersFrames classes bytes tried (Err (Refused refusal)) = tried ≡ Err refusal

-- objects are those that the bodies of frames are read as, in ascending order of handle
pub record AreObjectsOf (classes : List Class) (bytes : List ℕ) (found : List FoundFrame) (objects : List ObjectValue) : Type 0 where
  pub values : List ObjectValue
  pub forms : AreFormsOf classes bytes found values
  pub same : IsPermutation values objects
  pub ascending : AreAscending objects

-- a call answers the objects of frames, which are listed, or the first refusal; out of memory reports nothing
abbrev pub AnswersObjects : List Class → List ℕ → Tried (List FoundFrame) → Result FramedObjects Fault → Type 0
AnswersObjects classes bytes tried (Ok read) =
    (found : List FoundFrame) × (tried ≡ Ok found) × AreObjectsOf classes bytes found (values_of read.objects) × (read.frames ≡ map frame_of found)
AnswersObjects classes bytes tried (Err NoMemory) = ⊤
AnswersObjects classes bytes tried (Err (Refused refusal)) = tried ≡ Err refusal

-- objects are those of the frames of an input's map, in ascending order of handle
abbrev pub AreObjectsIn : List Class → List ℕ → List ObjectValue → Type 0
AreObjectsIn classes bytes objects = (found : List FoundFrame) × (frames_tried bytes ≡ Ok found) × AreObjectsOf classes bytes found objects
