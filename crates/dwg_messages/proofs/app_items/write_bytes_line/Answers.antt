use Rattle.dwg_text.proofs.Writing.{◌▷◌}
use Rattle.dwg_messages.proofs.app_items.write_bytes_line.Goals as goal

pub returns : goal.returns
returns g c = c.write.ensures ▷ c.write_bytes.ensures ▷ c.write-2.ensures
