-- Classes that are written: which classes can be, and the bits that are written of them, padded to whole bytes. A rule of this project.
use Rattle.std.proofs.Common.{◌≤◌, Bool, List, ◌++◌, length}
use Rattle.std.specs.List.{AllByRecursion}
use Rattle.dwg_bits.specs.Sink.{padding}
use Rattle.dwg_grammar.specs.ToEnd.{short_all}
use Rattle.dwg_classes.specs.declared.class.Class.{Class}
use Rattle.dwg_classes.specs.Class.{IsClass, numbered_class, LEAST_NUMBER}

-- a class in hand can be written: its number is one that classes have, and its texts aren't too long
pub record IsWritable (class : Class) : Type 0 where
  pub number : LEAST_NUMBER ≤ class.number
  pub application : length class.application ≤ 65535
  pub cpp_name : length class.cpp_name ≤ 65535
  pub dxf_name : length class.dxf_name ≤ 65535

-- each can be written
abbrev pub AreWritable : List Class → Type 0
AreWritable classes = AllByRecursion IsWritable classes

-- a class in the ranges of its type, whose number is one that classes have
abbrev pub IsNumbered : Class → Type 0
IsNumbered class = IsClass class × (LEAST_NUMBER ≤ class.number)

-- the bits that are written of classes: each by its shortest spelling, and zero bits up to a whole byte
abbrev pub padded : List Class → List Bool
padded classes = short_all numbered_class classes ++ padding (short_all numbered_class classes)
