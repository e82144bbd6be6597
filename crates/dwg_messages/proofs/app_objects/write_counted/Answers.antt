use Rattle.dwg_text.proofs.Writing.{◌▷◌}
use Rattle.dwg_messages.specs.AppText.{items_text}
use Rattle.dwg_messages.proofs.app_objects.write_counted.Goals as goal

pub returns : goal.returns
unfolding items_text
returns g c = c.write_line.ensures ▷ c.write_all.ensures
