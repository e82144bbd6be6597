use Rattle.dwg_text.proofs.Writing.{◌▷◌}
use Rattle.dwg_text.proofs.lines.write_line.Goals as goal

pub returns : goal.returns
returns g c = c.write.ensures ▷ c.write_value.ensures ▷ c.write-2.ensures
