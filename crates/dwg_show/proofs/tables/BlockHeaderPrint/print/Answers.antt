use Rattle.dwg_show.specs.BodyFields.{block_header_fields}
use Rattle.dwg_text.proofs.Writing.{◌▷◌}
use Rattle.dwg_show.proofs.tables.BlockHeaderPrint.print.Goals as goal

pub returns : goal.returns
unfolding block_header_fields
returns g c =
    c.print_member.ensures ▷ c.print_member-2.ensures ▷ c.print_member-3.ensures ▷ c.print_member-4.ensures ▷ c.print_member-5.ensures
    ▷ c.print_member-6.ensures ▷ c.print_member-7.ensures ▷ c.print_member-8.ensures ▷ c.print_member-9.ensures ▷ c.print_member-10.ensures
    ▷ c.print_bytes.ensures ▷ c.print_member-11.ensures ▷ c.print_member-12.ensures ▷ c.print_member-13.ensures ▷ c.print_member-14.ensures
