use Rattle.std.proofs.Common.{sym, ◌∙◌, ap, subst, Some}
use Rattle.std.proofs.lemmas.Option.{slice_get-get_or}
use Rattle.dwg_base.proofs.OneOfAll.{one_of_all}
use Rattle.dwg_text.specs.Writing.{WritesText}
use Rattle.dwg_text.proofs.Elements.{more_paragraphs}
use Rattle.dwg_text.proofs.Writing.{◌▷◌}
use Rattle.dwg_show.proofs.paragraphs.write_all.Goals as goal

pub paragraphs-preserved : goal.paragraphs-preserved
paragraphs-preserved g c =
    subst (WritesText _ _ _ _ _ _) (more_paragraphs g.T.Paragraph.written c.args.paragraphs.now c.paragraphs.index c.index-paragraphs-index.result c.paragraphs-test.true c.index-paragraphs-index.is)
    (c.paragraphs.invariant ▷ c.write.ensures)

pub write-requires : goal.write-requires
write-requires g c =
    let one = c.index-paragraphs-index.result in
    one_of_all g.T.Paragraph.can_write c.args.paragraphs.now c.paragraphs.index one c.requires
    (slice_get-get_or c.args.paragraphs.now c.paragraphs.index one c.paragraphs-test.true ∙ ap Some (sym c.index-paragraphs-index.is))
