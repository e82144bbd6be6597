use Rattle.dwg_show.specs.CommonFields.{entity_common_fields}
use Rattle.dwg_text.proofs.Writing.{◌▷◌}
use Rattle.dwg_show.proofs.common.EntityCommonPrint.print.Goals as goal

pub returns : goal.returns
unfolding entity_common_fields
returns g c =
    c.print_member.ensures ▷ c.print_bytes_where.ensures ▷ c.print_member-2.ensures ▷ c.print_member-3.ensures ▷ c.print_member-4.ensures ▷ c.print_member-5.ensures ▷ c.print_member-6.ensures ▷ c.print_member-7.ensures ▷ c.print_member-8.ensures ▷ c.print_member-9.ensures ▷ c.print_member-10.ensures ▷ c.print_member-11.ensures ▷ c.print_member-12.ensures ▷ c.print_member-13.ensures ▷ c.print_member-14.ensures ▷ c.print_member-15.ensures
