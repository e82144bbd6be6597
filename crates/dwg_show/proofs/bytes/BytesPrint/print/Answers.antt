use Rattle.dwg_show.specs.Fields.{field_line}
use Rattle.dwg_text.proofs.Writing.{◌▷◌}
use Rattle.dwg_show.proofs.bytes.BytesPrint.print.Goals as goal

pub returns : goal.returns
unfolding field_line
returns g c = c.write.ensures ▷ c.write-2.ensures ▷ c.write-3.ensures ▷ c.write_bytes.ensures ▷ c.write-4.ensures
