use Rattle.dwg_text.proofs.Writing.{◌▷◌}
use Rattle.dwg_messages.proofs.drill.write_changed.Goals as goal

pub returns : goal.returns
returns g c = c.write.ensures ▷ c.write_value.ensures ▷ c.write-2.ensures ▷ c.write_fault.ensures ▷ c.write-3.ensures
