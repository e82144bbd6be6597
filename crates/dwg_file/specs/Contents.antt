-- What a drawing says, as a plain value, whoever holds its bytes. A rule of this project.
use Rattle.std.specs.Prelude.{ℕ, List, map}
use Rattle.dwg_base.specs.declared.version.Version.{Version}
use Rattle.dwg_classes.specs.declared.class.Class.{Class}
use Rattle.dwg_codes.specs.Parts.{part_bytes}
use Rattle.dwg_object.specs.Objects.{ObjectValue, value_of}
use Rattle.dwg_file.specs.declared.drawing_parts.Other.{Other}
use Rattle.dwg_file.specs.declared.drawing_parts.Parts.{Parts}

-- an unknown section
pub record OtherValue : Type 0 where
  pub number : ℕ
  pub bytes : List ℕ

-- the plain value of an unknown section in hand
abbrev pub other_value : Other → OtherValue
other_value other = record { number = other.number; bytes = part_bytes other.bytes }

-- a drawing
pub record Contents : Type 0 where
  pub version : Version
  pub lead : List ℕ
  pub mark : List ℕ
  pub code_page : ℕ
  pub variables : List ℕ
  pub classes : List Class
  pub others : List OtherValue
  pub objects : List ObjectValue

-- what the parts in hand say
abbrev pub contents_of : Parts → Contents
contents_of parts = record {
  version = parts.version;
  lead = parts.lead;
  mark = parts.mark;
  code_page = parts.code_page;
  variables = part_bytes parts.variables;
  classes = parts.classes;
  others = map other_value parts.others;
  objects = map value_of parts.objects;
}
