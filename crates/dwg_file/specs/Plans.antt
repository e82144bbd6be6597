-- What a drawing needs to be written: where its parts stand, and room for one of them. A rule of this project.
use Rattle.std.specs.Prelude.{◌≡◌, ℕ, ◌*◌, ◌^◌, ◌<◌, ◌≤◌, List, ◌++◌, length, Option}
use Rattle.dwg_base.specs.declared.version.Version.{Version}
use Rattle.dwg_base.specs.Devices.{MOST_BYTES}
use Rattle.std.specs.List.{AllByRecursion}
use Rattle.dwg_sections.specs.declared.header.FileHeader.{FileHeader}
use Rattle.dwg_object.specs.Written.{PartsFit, body_bytes}
use Rattle.dwg_base.specs.Bytes.{AreBytes}
use Rattle.dwg_grammar.specs.ModularCodes.{ms}
use Rattle.dwg_object.specs.Frames.{frame_bytes}
use Rattle.dwg_objmap.specs.declared.pair.Pair.{Pair}
use Rattle.dwg_objmap.specs.Writing.{OpenPage, map_after}
use Rattle.std.specs.Io.KnownBytes.{Appends}
use Rattle.dwg_object.specs.Objects.{ObjectValue}
use Rattle.dwg_object.specs.Objects.ObjectValue.{TypedValue, PlainValue, RawValue}
use Rattle.dwg_sections.specs.declared.framed.Framed.TheVariants.{Variables, Classes}
use Rattle.dwg_sections.specs.FileHeader.{header_bytes}
use Rattle.dwg_sections.specs.Framed.{framed_bytes}
use Rattle.dwg_file.specs.declared.file_layout.Layout.{Layout}
use Rattle.dwg_file.specs.Canonical.{Carried, IsCarried, class_content, frames_bytes, placed, preview_at, variables_place, classes_place, preview_place, objects_place_with, map_place_with, others_place_with, header_with, size_with}
use Rattle.dwg_preview.specs.Previews.{prefix_bytes}
use Rattle.dwg_file.specs.Contents.{Contents}
use Rattle.dwg_file.specs.Valid.{IsValid}

-- an object whose frame can be written
abbrev pub CanBeFramed : Version → ObjectValue → Type 0
CanBeFramed version value = PartsFit version value × (length (body_bytes version value) < 2 ^ 29)

-- the room that the frame of an object takes while it is sent: that of a Raw one takes room for its length alone, since its body is held elsewhere
abbrev pub room_of_frame : Version → ObjectValue → ℕ
room_of_frame version (TypedValue number handle common body) = length (frame_bytes version (TypedValue number handle common body))
room_of_frame version (PlainValue number handle common rest refs) = length (frame_bytes version (PlainValue number handle common rest refs))
room_of_frame version (RawValue number handle bytes) = length (ms.short (length bytes))

-- an object whose frame can be written, with room for so many bits
pub record CanBeSent (version : Version) (room : ℕ) (value : ObjectValue) : Type 0 where
  pub framed : CanBeFramed version value
  pub are : AreBytes (body_bytes version value)
  pub fits : 8 * room_of_frame version value ≤ room

-- of a map a sink took all but what is made of the open page and of the pairs that are left
pub record IsPut (old now : Option (List ℕ)) (page : OpenPage) (left : List Pair) (map : List ℕ) : Type 0 where
  pub sent : List ℕ
  pub taken : Appends old now sent
  pub whole : sent ++ map_after page left ≡ map

-- the room for so many bytes holds what of an object's frame isn't held elsewhere
abbrev pub FitsIn : Version → ℕ → ObjectValue → Type 0
FitsIn version part value = room_of_frame version value ≤ part

-- with room for so many bits each part of a drawing's canonical file can be made that isn't held elsewhere: the file header, which ends where the header variables stand, the preview up to its further bytes, the content of the classes, and each frame
pub record HasRoom (carried : Carried) (room : ℕ) (drawing : Contents) : Type 0 where
  pub header : 8 * variables_place drawing ≤ room
  pub preview : 8 * length (prefix_bytes carried.place (preview_place drawing) carried.content) ≤ room
  pub classes : 8 * length (class_content drawing.classes) ≤ room
  pub objects : AllByRecursion (CanBeSent drawing.version room) drawing.objects

-- where the parts of a drawing's canonical file stand, and its size
pub record IsLayout (layout : Layout) (carried : Carried) (drawing : Contents) : Type 0 where
  pub variables : layout.variables ≡ variables_place drawing
  pub classes : layout.classes ≡ classes_place drawing
  pub preview : layout.preview ≡ preview_place drawing
  pub pairs : layout.pairs ≡ placed drawing.version (objects_place_with carried drawing) drawing.objects
  pub map : layout.map ≡ map_place_with carried drawing
  pub others : layout.others ≡ others_place_with carried drawing
  pub size : layout.size ≡ size_with carried drawing

-- a drawing whose canonical file can be sent: it is valid and isn't too large, this is its header, and there is room for each part
pub record IsReady (carried : Carried) (drawing : Contents) (header : FileHeader) (room : ℕ) : Type 0 where
  pub valid : IsValid drawing
  pub is : IsCarried carried
  pub small : size_with carried drawing ≤ MOST_BYTES
  pub is_header : header ≡ header_with carried drawing
  pub has : HasRoom carried room drawing

-- what is at hand to write a drawing: all that sending takes, a pair for each object, and the size of the file
pub record IsPlan (carried : Carried) (drawing : Contents) (pairs : List Pair) (size : ℕ) (header : FileHeader) (room : ℕ) : Type 0 where
  pub ready : IsReady carried drawing header room
  pub are_placed : pairs ≡ placed drawing.version (objects_place_with carried drawing) drawing.objects
  pub is_size : size ≡ size_with carried drawing

-- the sections before the frames: header variables, classes, preview
abbrev pub sections_bytes : Carried → Contents → List ℕ
sections_bytes carried drawing = framed_bytes Variables drawing.variables ++ framed_bytes Classes (class_content drawing.classes) ++ preview_at carried (preview_place drawing)

-- what is planned: a drawing, and the preview that its file carries
pub record Planned : Type 0 where
  pub drawing : Contents
  pub carried : Carried

-- the canonical file up to the map: the file header, these sections, the frames
unfoldable pub before_map : Carried → Contents → List ℕ
before_map carried drawing = header_bytes (header_with carried drawing) ++ sections_bytes carried drawing ++ frames_bytes drawing.version drawing.objects
