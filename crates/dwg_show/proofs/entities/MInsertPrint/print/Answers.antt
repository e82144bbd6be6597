use Rattle.dwg_show.specs.BodyFields.{minsert_fields}
use Rattle.dwg_text.proofs.Writing.{◌▷◌}
use Rattle.dwg_show.proofs.entities.MInsertPrint.print.Goals as goal

pub returns : goal.returns
unfolding minsert_fields
returns g c =
    c.print_member.ensures ▷ c.print_member-2.ensures ▷ c.print_member-3.ensures ▷ c.print_member-4.ensures ▷ c.print_member-5.ensures
