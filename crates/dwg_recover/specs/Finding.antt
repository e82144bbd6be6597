-- What recovery finds of an input beside its frames. A rule of this project.
use Rattle.std.specs.Prelude.{◌≡◌, ℕ, List}
use Rattle.dwg_sections.specs.declared.framed.Framed.TheVariants as framed
use Rattle.dwg_recover.specs.declared.recovery.PartsFound.{PartsFound}
use Rattle.dwg_recover.specs.Recovering.{classes_found}
use Rattle.dwg_recover.specs.Sections.{header_of, section_found}

-- the header, the places of the framed sections and the classes are those of the input
pub record AreFound (bytes : List ℕ) (found : PartsFound) : Type 0 where
  pub header : found.header ≡ header_of bytes
  pub variables : found.places.variables ≡ section_found framed.Variables bytes
  pub section : found.places.classes ≡ section_found framed.Classes bytes
  pub classes : found.classes ≡ classes_found bytes
