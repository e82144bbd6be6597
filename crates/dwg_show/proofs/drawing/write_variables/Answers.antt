use Rattle.dwg_show.specs.DrawingText.{variables_line}
use Rattle.dwg_text.proofs.Writing.{◌▷◌}
use Rattle.dwg_show.proofs.drawing.write_variables.Goals as goal

pub returns : goal.returns
unfolding variables_line
returns g c = c.write.ensures ▷ c.write_bytes.ensures ▷ c.write-2.ensures
