use Rattle.std.proofs.Common.{ap, subst, sym}
use Rattle.dwg_text.specs.Writing.{WritesText}
use Rattle.dwg_messages.specs.RecoveryNote.{loss_line}
use Rattle.dwg_messages.proofs.recovery.LossParagraph.write.Goals as goal

pub returns-in-Section : goal.returns-in-Section
unfolding loss_line
returns-in-Section g c = subst (WritesText _ _ _ _ _ _) (sym (ap loss_line c.in-Section.is)) c.write_placed.ensures

pub returns-in-MapEnd : goal.returns-in-MapEnd
unfolding loss_line
returns-in-MapEnd g c = subst (WritesText _ _ _ _ _ _) (sym (ap loss_line c.in-MapEnd.is)) c.write_line.ensures
