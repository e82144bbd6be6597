-- What is read of an input makes a valid drawing.
use Rattle.std.proofs.Common.{◌≡◌, ℕ, ◌*◌, ◌^◌, ◌<◌, ◌≤◌, List, length}
use Rattle.std.specs.Prelude.{AllPairs}
use Rattle.std.specs.List.{AllByRecursion}
use Rattle.dwg_base.specs.Bytes.{AreBytes}
use Rattle.dwg_base.specs.Devices.{MOST_BYTES}
use Rattle.dwg_classes.specs.Class.{AreClasses}
use Rattle.dwg_sections.specs.declared.header.FileHeader.{FileHeader}
use Rattle.dwg_sections.specs.FileHeader.{IsFileHeader}
use Rattle.dwg_file.specs.Contents.{Contents}
use Rattle.dwg_file.specs.ReadAs.{sections_at, whole_locators}
use Rattle.dwg_file.specs.Spelled.{AreAscending}
use Rattle.dwg_file.specs.Valid.{IsValid}
use Rattle.dwg_file.specs.ObjectSize.{IsReadOf}
use Rattle.dwg_file.specs.SectionNumbers.{IsSection, Differ}

-- the parts of a drawing are read of bytes that are no more than an input may have
pub record AreReadParts (drawing : Contents) : Type 0 where
  pub lead : (length drawing.lead ≡ 7) × AreBytes drawing.lead
  pub mark : (length drawing.mark ≡ 2) × AreBytes drawing.mark
  pub code_page : drawing.code_page < 2 ^ 16
  pub variables : AreBytes drawing.variables × (length drawing.variables ≤ MOST_BYTES)
  -- the classes are cut of some content
  pub content : List ℕ
  pub classes : AreClasses content drawing.classes
  pub content_few : length content ≤ MOST_BYTES
  -- at most three unknown sections, with distinct numbers
  pub few : length drawing.others ≤ 3
  pub others : AllByRecursion (IsSection MOST_BYTES) drawing.others
  pub distinct : AllPairs Differ drawing.others
  -- each object is read of some body, and their handles ascend
  pub objects : AllByRecursion (IsReadOf drawing.version drawing.classes) drawing.objects
  pub count : length drawing.objects ≤ 2 * MOST_BYTES
  pub ascending : AreAscending drawing.objects

-- such parts make a valid drawing
abbrev pub ReadPartsAreValid : Type 0
ReadPartsAreValid = (drawing : Contents) → AreReadParts drawing → IsValid drawing

-- the unknown sections of a header's locators that don't pass the end of an input are such parts
abbrev pub WholeSectionsAreRead : Type 0
WholeSectionsAreRead =
    (bytes : List ℕ) (header : FileHeader) → AreBytes bytes → length bytes ≤ MOST_BYTES → IsFileHeader header
    → (length (sections_at bytes (whole_locators bytes header.locators)) ≤ 3)
    × AllByRecursion (IsSection MOST_BYTES) (sections_at bytes (whole_locators bytes header.locators))
    × AllPairs Differ (sections_at bytes (whole_locators bytes header.locators))
