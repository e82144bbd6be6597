use Rattle.std.proofs.Common.{ap, subst}
use Rattle.dwg_text.specs.Writing.{WritesText}
use Rattle.dwg_text.proofs.Writing.{◌▷◌}
use Rattle.dwg_messages.specs.AppText.{app_after, app_text}
use Rattle.dwg_messages.proofs.app_objects.write_app.Goals as goal

pub returns : goal.returns
unfolding app_text
returns g c = c.write_prefix.ensures ▷ subst (WritesText _ _ _ _ _ _) (ap app_after c.as_slice.ensures) c.write_after.ensures
