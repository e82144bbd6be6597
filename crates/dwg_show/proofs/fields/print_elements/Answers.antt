use Rattle.std.proofs.Common.{subst}
use Rattle.dwg_text.specs.Writing.{WritesText}
use Rattle.dwg_show.specs.Fields.{element}
use Rattle.dwg_text.proofs.Elements.{more_numbered}
use Rattle.dwg_text.proofs.Writing.{◌▷◌}
use Rattle.dwg_show.proofs.fields.print_elements.Goals as goal

pub elements-preserved : goal.elements-preserved
elements-preserved g c =
    subst (WritesText _ _ _ _ _ _) (more_numbered (element g.T.Print.lines c.args.path.now) c.args.elements.now c.elements.index c.index-elements-index.result c.elements-test.true c.index-elements-index.is)
    (c.elements.invariant ▷ c.print_element.ensures)
