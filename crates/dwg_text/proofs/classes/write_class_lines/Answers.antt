use Rattle.std.proofs.Common.{subst}
use Rattle.dwg_text.specs.Classes.{class_line}
use Rattle.dwg_text.specs.Writing.{WritesText}
use Rattle.dwg_text.proofs.Elements.{more_paragraphs}
use Rattle.dwg_text.proofs.Writing.{◌▷◌}
use Rattle.dwg_text.proofs.classes.write_class_lines.Goals as goal

pub classes-preserved : goal.classes-preserved
classes-preserved g c =
    subst (WritesText _ _ _ _ _ _)
    (more_paragraphs class_line c.args.classes.now c.classes.index c.index-classes-index.result c.classes-test.true c.index-classes-index.is)
    (c.classes.invariant ▷ c.write_class_line.ensures)
