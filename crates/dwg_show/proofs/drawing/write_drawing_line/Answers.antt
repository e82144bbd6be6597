use Rattle.dwg_show.specs.DrawingText.{drawing_line}
use Rattle.dwg_text.proofs.Writing.{◌▷◌}
use Rattle.dwg_show.proofs.drawing.write_drawing_line.Goals as goal

pub returns : goal.returns
unfolding drawing_line
returns g c = c.write_made.ensures _ c.drawing_prefix.ensures ▷ c.write_bytes.ensures ▷ c.write.ensures ▷ c.write_bytes-2.ensures ▷ c.write-2.ensures
