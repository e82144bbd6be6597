-- Which drawings are valid: those that can be written and read again. A rule of this project.
use Rattle.std.specs.Prelude.{◌≡◌, ◌≢◌, ◌^◌, ◌<◌, ◌≤◌, length, AllPairs}
use Rattle.std.specs.List.{AllByRecursion}
use Rattle.dwg_base.specs.Bytes.{AreBytes}
use Rattle.dwg_classes.specs.Class.{numbered_class}
use Rattle.dwg_grammar.specs.ToEnd.{AreValues}
use Rattle.dwg_object.specs.Written.{IsValidObject}
use Rattle.dwg_file.specs.Contents.{OtherValue, Contents}
use Rattle.dwg_file.specs.Canonical.{size_of}
use Rattle.dwg_file.specs.Spelled.{AreAscending}

-- an unknown section has a number from 3 on, and bytes
pub record IsOther (other : OtherValue) : Type 0 where
  pub least : 3 ≤ other.number
  pub most : other.number < 2 ^ 8
  pub bytes : AreBytes other.bytes

-- a valid drawing
pub record IsValid (drawing : Contents) : Type 0 where
  -- the parts lie in the ranges of their types
  pub lead : (length drawing.lead ≡ 7) × AreBytes drawing.lead
  pub mark : (length drawing.mark ≡ 2) × AreBytes drawing.mark
  pub code_page : drawing.code_page < 2 ^ 16
  pub variables : AreBytes drawing.variables
  -- each class has a number from 500 on, and texts of at most 65,535 bytes
  pub classes : AreValues numbered_class drawing.classes
  -- at most three unknown sections, with distinct numbers from 3 on
  pub few : length drawing.others ≤ 3
  pub others : AllByRecursion IsOther drawing.others
  pub distinct : AllPairs (λ (one other : OtherValue). one.number ≢ other.number) drawing.others
  -- each object is one that the version and the classes allow, and their handles ascend
  pub objects : AllByRecursion (IsValidObject drawing.version drawing.classes) drawing.objects
  pub ascending : AreAscending drawing.objects
  -- the canonical size, counted in bits too, is a word's
  pub size : size_of drawing < 2 ^ 58
