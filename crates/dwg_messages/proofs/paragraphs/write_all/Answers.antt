use Rattle.std.proofs.Common.{subst}
use Rattle.dwg_text.specs.Writing.{WritesText}
use Rattle.dwg_text.proofs.Elements.{more_paragraphs}
use Rattle.dwg_text.proofs.Writing.{◌▷◌}
use Rattle.dwg_messages.proofs.paragraphs.write_all.Goals as goal

pub paragraphs-preserved : goal.paragraphs-preserved
paragraphs-preserved g c =
    subst (WritesText _ _ _ _ _ _)
    (more_paragraphs g.T.Paragraph.written c.args.paragraphs.now c.paragraphs.index c.index-paragraphs-index.result c.paragraphs-test.true c.index-paragraphs-index.is)
    (c.paragraphs.invariant ▷ c.write.ensures)
