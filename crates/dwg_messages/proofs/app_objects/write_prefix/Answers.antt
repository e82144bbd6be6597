use Rattle.std.proofs.Common.{ap, subst}
use Rattle.dwg_text.specs.Writing.{WritesText}
use Rattle.dwg_text.proofs.Writing.{◌▷◌}
use Rattle.dwg_messages.specs.AppText.{app_prefix}
use Rattle.dwg_messages.proofs.app_objects.write_prefix.Goals as goal

pub returns : goal.returns
unfolding app_prefix
returns g c =
    subst (WritesText _ _ _ _ _ _) (ap (λ handle. app_prefix handle c.args.index c.args.application.now) c.value.ensures.value)
    (c.write.ensures ▷ c.write_value.ensures ▷ c.write-2.ensures ▷ c.write_value-2.ensures ▷ c.write-3.ensures ▷ c.write_value-3.ensures ▷ c.write-4.ensures)
