use Rattle.dwg_text.proofs.Writing.{◌▷◌}
use Rattle.dwg_messages.specs.RecoveryNote.{count_line, recovery_note}
use Rattle.dwg_messages.proofs.recovery.write_recovery.Goals as goal

pub returns : goal.returns
unfolding recovery_note count_line
returns g c = c.write_made.ensures _ c.refusal_line.ensures ▷ c.write_all.ensures ▷ c.write_all-2.ensures ▷ c.write_line.ensures
