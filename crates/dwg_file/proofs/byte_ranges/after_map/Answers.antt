use Rattle.std.proofs.Common.{sym, ◌∙◌}
use Rattle.dwg_file.proofs.ByteRunLemmas.{first_fits}
use Rattle.dwg_file.proofs.byte_ranges.after_map.Goals as goal

pub after_run-requires : goal.after_run-requires
after_run-requires c = record { fits = λ first is. first_fits c.args.place c.args.runs.now.entries first c.requires (sym is ∙ c.first_in_map.ensures) }
