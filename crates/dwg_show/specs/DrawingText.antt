-- The text of a drawing. A rule of this project.
use Rattle.std.specs.Prelude.{ℕ, List, ◌++◌, codes, decimal, flat_map, length}
use Rattle.dwg_base.specs.Versions.{version_bytes}
use Rattle.dwg_file.specs.Contents.{Contents, OtherValue}
use Rattle.dwg_object.specs.Objects.{ObjectValue}
use Rattle.dwg_text.specs.Classes.{classes_text}
use Rattle.dwg_text.specs.Lines.{line}
use Rattle.dwg_text.specs.Values.{bytes_text}
use Rattle.dwg_show.specs.ObjectText.{object_text}

-- the version, the code page, and the bytes that are kept without meaning
unfoldable pub drawing_line : Contents → List ℕ
drawing_line drawing =
    line (codes "drawing " ++ version_bytes drawing.version ++ codes " codepage " ++ decimal drawing.code_page ++ codes " lead " ++ bytes_text drawing.lead ++ codes " mark " ++ bytes_text drawing.mark)

-- the header variables
unfoldable pub variables_line : List ℕ → List ℕ
variables_line variables = line (codes "variables " ++ bytes_text variables)

-- an unknown section
unfoldable pub other_line : OtherValue → List ℕ
other_line other = line (codes "section " ++ decimal other.number ++ codes " " ++ bytes_text other.bytes)

-- the count of the objects, and these in their order
unfoldable pub objects_text : List ObjectValue → List ℕ
objects_text objects = line (codes "objects " ++ decimal (length objects)) ++ flat_map object_text objects

-- a drawing: what its header says, the header variables, the classes, the unknown sections, and the objects
unfoldable pub show_text : Contents → List ℕ
show_text drawing =
    drawing_line drawing ++ variables_line drawing.variables ++ classes_text drawing.classes ++ flat_map other_line drawing.others
    ++ objects_text drawing.objects
