use Rattle.std.proofs.Common.{sym, ◌∙◌, arith}
use Rattle.dwg_file.proofs.ByteRunLemmas.{row_stays, first_fits}
use Rattle.dwg_file.proofs.byte_ranges.after_row.Goals as goal

pub returns-then-last-place : goal.returns-then-last-place
returns-then-last-place c = row_stays c.args.last c.args.place c.args.row.now c.requires (omega (arith, c.if-last-place.true))

pub after_run-requires : goal.after_run-requires
after_run-requires c = record { fits = λ first is. first_fits c.args.place c.args.row.now first c.requires.are (sym is ∙ c.first_in_row.ensures) }
