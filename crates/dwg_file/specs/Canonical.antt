-- The canonical file of a drawing: its parts one after the other without gaps. A rule of this project, over the layout of the Open Design Specification, "R13 to R2000 file layout".
use Rattle.std.specs.Prelude.{ℕ, ◌+◌, ◌*◌, List, [], ◌∷◌, ◌++◌, length, flat_map, Option, Some, None}
use Rattle.dwg_base.specs.declared.version.Version.{Version}
use Rattle.dwg_base.specs.Bytes.{AreBytes}
use Rattle.dwg_bits.specs.Sink.{padding}
use Rattle.dwg_bits.specs.WholeBytes.{whole_bytes}
use Rattle.dwg_classes.specs.declared.class.Class.{Class}
use Rattle.dwg_classes.specs.Class.{numbered_class}
use Rattle.dwg_grammar.specs.ToEnd.{short_all}
use Rattle.dwg_object.specs.Objects.{ObjectValue, handle_of}
use Rattle.dwg_object.specs.Frames.{frame_bytes}
use Rattle.dwg_objmap.specs.declared.pair.Pair.{Pair}
use Rattle.dwg_objmap.specs.Writing.{map_bytes}
use Rattle.dwg_sections.specs.declared.framed.Framed.TheVariants.{Variables, Classes}
use Rattle.dwg_sections.specs.declared.header.Locator.{Locator}
use Rattle.dwg_sections.specs.declared.header.FileHeader.{FileHeader}
use Rattle.dwg_sections.specs.FileHeader.{OF_LOCATOR, WITHOUT_LOCATORS, header_bytes}
use Rattle.dwg_preview.specs.declared.preview.Preview.{Preview}
use Rattle.dwg_preview.specs.Previews.{IsContent, moved, preview_bytes}
use Rattle.dwg_sections.specs.Framed.{WITHOUT_CONTENT, framed_bytes}
use Rattle.dwg_file.specs.Contents.{OtherValue, Contents}

-- a preview section that a file carries: where it stood, and its content
pub record Carried : Type 0 where
  pub place : ℕ
  pub content : List ℕ

-- one without a picture, wherever it stood: RC 0
abbrev pub NO_PICTURE : Carried
NO_PICTURE = record { place = 0; content = 0 ∷ [] }

-- the one that was read
abbrev pub carried_by : Preview → Carried
carried_by preview = record { place = preview.place; content = preview.content.now }

-- the one that is handed over, or none
abbrev pub carried_of : Option Preview → Carried
carried_of None = NO_PICTURE
carried_of (Some preview) = carried_by preview

-- it is one, of bytes
pub record IsCarried (carried : Carried) : Type 0 where
  pub is : IsContent carried.place carried.content
  pub are : AreBytes carried.content

-- the preview section as it is at a place
abbrev pub preview_at : Carried → ℕ → List ℕ
preview_at carried place = preview_bytes (moved carried.place place carried.content)

-- how many bytes it has
abbrev pub preview_size : Carried → ℕ
preview_size carried = 36 + length carried.content

-- the content of the classes: what is written of them, padded with zero bits to a byte
abbrev pub class_content : List Class → List ℕ
class_content classes = whole_bytes (short_all numbered_class classes ++ padding (short_all numbered_class classes))

-- the frames of objects, one after the other
abbrev pub frames_bytes : Version → List ObjectValue → List ℕ
frames_bytes version objects = flat_map (frame_bytes version) objects

-- the pairs of objects whose frames stand one after the other from a place
abbrev pub placed : Version → ℕ → List ObjectValue → List Pair
placed version place [] = []
placed version place (object ∷ objects) = record { handle = handle_of object; place = place } ∷ placed version (place + length (frame_bytes version object)) objects

-- the bytes of the unknown sections, one after the other
abbrev pub others_bytes : List OtherValue → List ℕ
others_bytes others = flat_map (λ (other : OtherValue). other.bytes) others

-- where each part of the canonical file stands
abbrev pub variables_place : Contents → ℕ
variables_place drawing = WITHOUT_LOCATORS + OF_LOCATOR * (3 + length drawing.others)

abbrev pub classes_place : Contents → ℕ
classes_place drawing = variables_place drawing + WITHOUT_CONTENT + length drawing.variables

abbrev pub preview_place : Contents → ℕ
preview_place drawing = classes_place drawing + WITHOUT_CONTENT + length (class_content drawing.classes)

abbrev pub objects_place_with : Carried → Contents → ℕ
objects_place_with carried drawing = preview_place drawing + preview_size carried

abbrev pub map_place_with : Carried → Contents → ℕ
map_place_with carried drawing = objects_place_with carried drawing + length (frames_bytes drawing.version drawing.objects)

-- the bytes of the map
abbrev pub map_with : Carried → Contents → List ℕ
map_with carried drawing = map_bytes (placed drawing.version (objects_place_with carried drawing) drawing.objects)

abbrev pub others_place_with : Carried → Contents → ℕ
others_place_with carried drawing = map_place_with carried drawing + length (map_with carried drawing)

-- the size of the canonical file with a preview: the sum of the lengths of its parts
abbrev pub size_with : Carried → Contents → ℕ
size_with carried drawing = others_place_with carried drawing + length (others_bytes drawing.others)

-- the locators of unknown sections that stand one after the other from a place
abbrev pub others_located : ℕ → List OtherValue → List Locator
others_located place [] = []
others_located place (other ∷ others) =
    record { number = other.number; place = place; size = length other.bytes } ∷ others_located (place + length other.bytes) others

-- the file header: the locators of header variables and classes count whole sections, that of the map all pages
abbrev pub header_with : Carried → Contents → FileHeader
header_with carried drawing = record {
  version = drawing.version;
  lead = drawing.lead;
  preview = preview_place drawing;
  mark = drawing.mark;
  code_page = drawing.code_page;
  locators =
      record { number = 0; place = variables_place drawing; size = WITHOUT_CONTENT + length drawing.variables }
      ∷ record { number = 1; place = classes_place drawing; size = WITHOUT_CONTENT + length (class_content drawing.classes) }
      ∷ record { number = 2; place = map_place_with carried drawing; size = length (map_with carried drawing) }
      ∷ others_located (others_place_with carried drawing) drawing.others;
}

-- the canonical file with a preview
unfoldable pub canonical_with : Carried → Contents → List ℕ
canonical_with carried drawing =
    header_bytes (header_with carried drawing) ++ framed_bytes Variables drawing.variables ++ framed_bytes Classes (class_content drawing.classes)
    ++ preview_at carried (preview_place drawing) ++ frames_bytes drawing.version drawing.objects ++ map_with carried drawing ++ others_bytes drawing.others

-- all that of the canonical file of a drawing alone, whose preview has no picture
abbrev pub objects_place : Contents → ℕ
objects_place drawing = objects_place_with NO_PICTURE drawing

abbrev pub map_place : Contents → ℕ
map_place drawing = map_place_with NO_PICTURE drawing

abbrev pub map_of : Contents → List ℕ
map_of drawing = map_with NO_PICTURE drawing

abbrev pub others_place : Contents → ℕ
others_place drawing = others_place_with NO_PICTURE drawing

abbrev pub size_of : Contents → ℕ
size_of drawing = size_with NO_PICTURE drawing

abbrev pub header_of : Contents → FileHeader
header_of drawing = header_with NO_PICTURE drawing

abbrev pub canonical : Contents → List ℕ
canonical drawing = canonical_with NO_PICTURE drawing
