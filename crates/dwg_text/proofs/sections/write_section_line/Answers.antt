use Rattle.dwg_text.specs.Sections.{section_line}
use Rattle.dwg_text.proofs.Writing.{◌▷◌}
use Rattle.dwg_text.proofs.sections.write_section_line.Goals as goal

pub returns : goal.returns
unfolding section_line
returns g c =
    c.write.ensures ▷ c.write_value.ensures ▷ c.write-2.ensures ▷ c.write_value-2.ensures ▷ c.write-3.ensures ▷ c.write_value-3.ensures ▷ c.write-4.ensures
