use Rattle.dwg_show.specs.ObjectText.{object_text}
use Rattle.dwg_text.proofs.Writing.{◌▷◌}
use Rattle.dwg_show.proofs.object.ObjectParagraph.write.Goals as goal

pub returns : goal.returns
unfolding object_text
returns g c = c.write_made.ensures _ c.head_line.ensures ▷ c.print_fields.ensures
