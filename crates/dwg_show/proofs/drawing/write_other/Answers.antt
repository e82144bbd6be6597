use Rattle.dwg_show.specs.DrawingText.{other_line}
use Rattle.dwg_text.proofs.Writing.{◌▷◌}
use Rattle.dwg_show.proofs.drawing.write_other.Goals as goal

pub returns : goal.returns
unfolding other_line
returns g c = c.write_made.ensures _ c.other_prefix.ensures ▷ c.write_bytes.ensures ▷ c.write.ensures
