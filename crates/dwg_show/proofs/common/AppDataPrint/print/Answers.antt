use Rattle.dwg_show.specs.CommonFields.{app_data_fields}
use Rattle.dwg_text.proofs.Writing.{◌▷◌}
use Rattle.dwg_show.proofs.common.AppDataPrint.print.Goals as goal

pub returns : goal.returns
unfolding app_data_fields
returns g c =
    c.print_member.ensures ▷ c.print_bytes.ensures
