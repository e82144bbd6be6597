-- The text of a file's classes. A rule of this project.
use Rattle.std.specs.Prelude.{ℕ, List, ◌++◌, length, codes, decimal, flat_map}
use Rattle.dwg_classes.specs.declared.class.Class.{Class}
use Rattle.dwg_text.specs.Lines.{line, truth, quoted}

-- what a class says
unfoldable pub class_line : Class → List ℕ
class_line class =
    line (codes "class " ++ decimal class.number ++ codes " version " ++ decimal class.version ++ codes " proxy " ++ truth class.proxy
    ++ codes " item " ++ decimal class.item ++ codes " app " ++ quoted class.application ++ codes " cpp " ++ quoted class.cpp_name
    ++ codes " dxf " ++ quoted class.dxf_name)

-- the count of the classes, and the classes in file order
unfoldable pub classes_text : List Class → List ℕ
classes_text classes = line (codes "classes " ++ decimal (length classes)) ++ flat_map class_line classes
