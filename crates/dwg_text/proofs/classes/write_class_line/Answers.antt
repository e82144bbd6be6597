use Rattle.dwg_text.specs.Classes.{class_line}
use Rattle.dwg_text.proofs.Writing.{◌▷◌}
use Rattle.dwg_text.proofs.classes.write_class_line.Goals as goal

pub returns : goal.returns
unfolding class_line
returns g c =
    c.write.ensures ▷ c.write_value.ensures ▷ c.write-2.ensures ▷ c.write_value-2.ensures ▷ c.write-3.ensures ▷ c.write_value-3.ensures ▷ c.write-4.ensures ▷ c.write_value-4.ensures
    ▷ c.write-5.ensures ▷ c.write_value-5.ensures ▷ c.write-6.ensures ▷ c.write_value-6.ensures ▷ c.write-7.ensures ▷ c.write_value-7.ensures ▷ c.write-8.ensures
