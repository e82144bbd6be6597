use Rattle.std.proofs.Common.{sym, ◌∙◌, arith}
use Rattle.dwg_file.proofs.ByteRunLemmas.{after_begun, after_unbegun, after_none}
use Rattle.dwg_file.proofs.byte_ranges.after_run.Goals as goal

pub returns-then-first-place : goal.returns-then-first-place
returns-then-first-place c = λ runs are is. after_begun c.args.place runs (c.in-Some.last, c.in-Some.first) are (sym c.in-Some.is ∙ is) (omega (arith, c.if-first-place.true))

pub returns-else-first-place : goal.returns-else-first-place
returns-else-first-place c = λ runs are is. after_unbegun c.args.place runs (c.in-Some.last, c.in-Some.first) are (sym c.in-Some.is ∙ is) (omega (arith, c.if-first-place.false))

pub returns-in-None : goal.returns-in-None
returns-in-None c = λ runs are is. after_none c.args.place runs are (sym c.in-None.is ∙ is)
