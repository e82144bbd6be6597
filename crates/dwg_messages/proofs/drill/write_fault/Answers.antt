use Rattle.std.proofs.Common.{ap, subst, sym}
use Rattle.dwg_text.specs.Writing.{WritesText}
use Rattle.dwg_messages.specs.DrillText.{fault_text}
use Rattle.dwg_messages.proofs.drill.write_fault.Goals as goal

pub returns-in-Some : goal.returns-in-Some
unfolding fault_text
returns-in-Some g c = subst (WritesText _ _ _ _ _ _) (sym (ap fault_text c.in-Some.is)) (c.write_made.ensures _ c.refusal_words.ensures)
