use Rattle.std.proofs.Common.{drop}
use Rattle.dwg_tables.proofs.MarkParts.{AreTried}
use Rattle.dwg_tables.proofs.insert_marks.counts_fit.Given as goal

-- the counts so far are such that marks may have
abbrev pub invariant-marks : goal.invariant-marks
invariant-marks l = AreTried l.marks (drop l.mark-index l.marks)
