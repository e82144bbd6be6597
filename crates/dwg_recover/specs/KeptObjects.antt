-- The objects of the frames that are kept, and what the scan reports of a place. A rule of this project.
use Rattle.std.specs.Bool.{then_some}
use Rattle.dwg_base.specs.Versions.{version_at}
use Rattle.std.specs.List.{range_with_len}
use Rattle.std.specs.Prelude.{◌≡◌, ◌+◌, ◌-◌, ◌*◌, ◌<◌, ◌≤◌, ℕ, true, List, [], ◌∷◌, ◌++◌, length, map, Option, Some, None}
use Rattle.dwg_classes.specs.declared.class.Class.{Class}
use Rattle.dwg_object.proofs.FormLaws.{form_at}
use Rattle.dwg_object.specs.declared.span.Span.{Span}
use Rattle.dwg_object.specs.FrameLines.{span_body}
use Rattle.dwg_object.specs.Objects.{ObjectValue, value_of}
use Rattle.dwg_recover.specs.declared.frame.Frame.{Frame}
use Rattle.dwg_recover.specs.declared.objects.FrameObject.{FrameObject}
use Rattle.dwg_recover.specs.declared.objects.KeptObjects.{KeptObjects}
use Rattle.dwg_recover.specs.Frames.{has_common_part, is_free, keep_free, scanned, scanned_over}
use Rattle.dwg_recover.specs.Recovering.{object_of}

-- the objects are those that the bodies of the frames are read as, one for each in the order of the frames
abbrev pub HoldsObjects : List Class → List ℕ → KeptObjects → Type 0
HoldsObjects classes bytes kept = map value_of kept.objects.items ≡ map (object_of classes bytes) kept.frames

-- what the body of a span is read as, where it is read with its common part
abbrev pub common_at : List Class → List ℕ → Span → Option ObjectValue
common_at classes bytes span = then_some (has_common_part (form_at (version_at bytes) classes (span_body bytes span))) (form_at (version_at bytes) classes (span_body bytes span))

-- a frame is the one that is kept at a place beside others, with which it shares no byte; and its object is the one that its body is read as
pub record IsKeptAt (classes : List Class) (bytes : List ℕ) (kept : List Frame) (place : ℕ) (found : FrameObject) : Type 0 where
  pub from : found.frame.from ≡ place
  pub more : kept ++ found.frame ∷ [] ≡ keep_free kept (scanned classes bytes place)
  pub some : found.frame.from < found.frame.end
  pub free : is_free kept found.frame.from found.frame.end ≡ true
  pub object : value_of found.object ≡ object_of classes bytes found.frame

-- what the scan reports of a place: the frame that is kept there beside others, with its object; or nothing, where none is
abbrev pub ReportsPlace : List Class → List ℕ → List Frame → ℕ → Option FrameObject → Type 0
ReportsPlace classes bytes kept place None = kept ≡ keep_free kept (scanned classes bytes place)
ReportsPlace classes bytes kept place (Some found) = IsKeptAt classes bytes kept place found

-- what is kept of the places from one on
abbrev pub scanned_from : List Class → List ℕ → List Frame → ℕ → List Frame
scanned_from classes bytes kept place = scanned_over classes bytes kept (range_with_len place (length bytes - place))

-- how far the scan is after a place: the frames kept and what is left give all, and no place that was passed took more than its steps
pub record IsScanned (classes : List Class) (bytes : List ℕ) (entry : List Frame) (from : ℕ) (kept : List Frame) (place begun steps : ℕ) : Type 0 where
  pub left : scanned_from classes bytes kept place ≡ scanned_from classes bytes entry from
  pub after : from ≤ place
  pub spent : steps + 15 * (length bytes - place) ≤ begun + 15 * (length bytes - from)

-- a frame is the next that is kept beside others, at a place or after it: nothing is kept before it
pub record IsNext (classes : List Class) (bytes : List ℕ) (kept : List Frame) (from begun steps : ℕ) (found : FrameObject) : Type 0 where
  pub at : IsKeptAt classes bytes kept found.frame.from found
  pub after : from ≤ found.frame.from
  pub within : found.frame.from < length bytes
  pub scanned : IsScanned classes bytes kept from (kept ++ found.frame ∷ []) (found.frame.from + 1) begun steps

-- what the scan reports from a place on: the next frame, with its object; or nothing, where none is kept any more
abbrev pub ReportsNext : List Class → List ℕ → List Frame → ℕ → ℕ → ℕ → Option FrameObject → Type 0
ReportsNext classes bytes kept from begun steps None = scanned_from classes bytes kept from ≡ kept
ReportsNext classes bytes kept from begun steps (Some found) = IsNext classes bytes kept from begun steps found
