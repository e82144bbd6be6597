use Rattle.dwg_text.specs.Classes.{classes_text}
use Rattle.dwg_text.proofs.Writing.{◌▷◌}
use Rattle.dwg_text.proofs.classes.write_classes.Goals as goal

pub returns : goal.returns
unfolding classes_text
returns g c = c.write_line.ensures ▷ c.write_class_lines.ensures
