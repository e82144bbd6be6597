use Rattle.dwg_text.proofs.Writing.{◌▷◌}
use Rattle.dwg_messages.specs.DrillText.{drill_text}
use Rattle.dwg_messages.proofs.drill.write_report.Goals as goal

pub returns : goal.returns
unfolding drill_text
returns g c = c.write_line.ensures ▷ c.write_line-2.ensures ▷ c.write_line-3.ensures ▷ c.write_line-4.ensures ▷ c.write_changed.ensures ▷ c.write_line-5.ensures
