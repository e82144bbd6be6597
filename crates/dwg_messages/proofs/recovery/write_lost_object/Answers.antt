use Rattle.std.proofs.Common.{ap, subst, ◌++◌}
use Rattle.std.specs.Prelude.{codes, decimal}
use Rattle.dwg_text.specs.Lines.{line}
use Rattle.dwg_text.specs.Values.{upper_digits}
use Rattle.dwg_text.specs.Writing.{WritesText}
use Rattle.dwg_messages.specs.RecoveryNote.{loss_line}
use Rattle.dwg_messages.proofs.recovery.write_lost_object.Goals as goal

pub returns : goal.returns
unfolding loss_line
returns g c = subst (WritesText _ _ _ _ _ _) (ap (λ number. line (codes "lost: object " ++ upper_digits number ++ codes " at " ++ decimal c.args.place)) c.value.ensures.value) c.write_placed.ensures
