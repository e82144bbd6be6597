-- The drawing that is read of an input, as a function of its bytes. A rule of this project.
use Rattle.std.specs.Prelude.{◌≡◌, ℕ, List, [], map}
use Rattle.dwg_base.specs.Versions.{version_at}
use Rattle.dwg_base.specs.declared.version.Version.{Version}
use Rattle.std.specs.Result.{result_unwrap_or}
use Rattle.dwg_classes.specs.declared.class.Class.{Class}
use Rattle.dwg_object.specs.Objects.{ObjectValue}
use Rattle.dwg_object.proofs.FormLaws.{form_at}
use Rattle.dwg_object.specs.Forms.{FormOf}
use Rattle.dwg_object.specs.FrameLines.{span_body}
use Rattle.dwg_sections.specs.HeaderLines.{header_at}
use Rattle.dwg_sections.specs.FramedLines.{content_at}
use Rattle.dwg_file.specs.Contents.{Contents}
use Rattle.dwg_file.specs.FileLines.{FoundFrame, section_place, classes_tried, frames_tried}
use Rattle.dwg_file.specs.ReadAs.{sections_at}
use Rattle.dwg_file.specs.SortedObjects.{sorted}

-- the object that a body is read as is the one that `form_at` finds
abbrev pub FormsAreFound : Type 0
FormsAreFound = (version : Version) (classes : List Class) (body : List ℕ) (value : ObjectValue) → FormOf version classes body value → form_at version classes body ≡ value

-- the objects that the bodies of frames are read as
abbrev pub objects_at : List Class → List ℕ → List FoundFrame → List ObjectValue
objects_at classes bytes founds = map (λ (found : FoundFrame). form_at (version_at bytes) classes (span_body bytes found.0)) founds

-- the classes of an input, where no line on them fails
abbrev pub classes_at : List ℕ → List Class
classes_at bytes = result_unwrap_or (classes_tried bytes) []

-- the drawing of an input in which no line fails, its objects in ascending order of their handles
unfoldable pub drawing_at : List ℕ → Contents
drawing_at bytes = record {
  version = (header_at bytes).version;
  lead = (header_at bytes).lead;
  mark = (header_at bytes).mark;
  code_page = (header_at bytes).code_page;
  variables = content_at bytes (section_place 0 bytes);
  classes = classes_at bytes;
  others = sections_at bytes (header_at bytes).locators;
  objects = sorted (objects_at (classes_at bytes) bytes (result_unwrap_or (frames_tried bytes) []));
}
