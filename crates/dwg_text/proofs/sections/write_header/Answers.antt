use Rattle.std.proofs.Common.{ap, subst}
use Rattle.std.specs.Prelude.{flat_map}
use Rattle.dwg_text.specs.Sections.{section_line, sections_text}
use Rattle.dwg_text.specs.Writing.{WritesText}
use Rattle.dwg_text.proofs.Writing.{◌▷◌}
use Rattle.dwg_text.proofs.sections.write_header.Goals as goal

pub returns : goal.returns
unfolding sections_text
returns g c =
    c.write_line.ensures ▷ c.write_line-2.ensures ▷ c.write_line-3.ensures
    ▷ subst (WritesText _ _ _ _ _ _) (ap (flat_map section_line) c.as_slice.ensures) c.write_locators.ensures
