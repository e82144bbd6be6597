-- The text of a file's sections. A rule of this project.
use Rattle.std.specs.Prelude.{ℕ, List, ◌++◌, codes, decimal, flat_map}
use Rattle.dwg_base.specs.Versions.{version_bytes}
use Rattle.dwg_sections.specs.declared.header.Locator.{Locator}
use Rattle.dwg_sections.specs.declared.header.FileHeader.{FileHeader}
use Rattle.dwg_text.specs.Lines.{line}

-- what a locator says
unfoldable pub section_line : Locator → List ℕ
section_line locator =
    line (codes "section " ++ decimal locator.number ++ codes " at " ++ decimal locator.place ++ codes " size " ++ decimal locator.size)

-- the version, the code page, the place of the preview, and the locators in file order
unfoldable pub sections_text : FileHeader → List ℕ
sections_text header =
    line (codes "version " ++ version_bytes header.version) ++ line (codes "codepage " ++ decimal header.code_page) ++ line (codes "preview " ++ decimal header.preview)
    ++ flat_map section_line header.locators
