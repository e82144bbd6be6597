use Rattle.dwg_check.proofs.Periods.{IsOnWay}
use Rattle.dwg_check.proofs.zeros.after_zeros.Given as goal

abbrev pub invariant-powers : goal.invariant-powers
invariant-powers g l = IsOnWay l.word l.zeros l.after l.left l.power l.initial.steps l.steps

abbrev pub decreases-powers : goal.decreases-powers
decreases-powers g l = l.left
