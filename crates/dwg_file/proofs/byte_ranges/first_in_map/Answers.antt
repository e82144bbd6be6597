use Rattle.std.proofs.Common.{sym, ◌∙◌}
use Rattle.dwg_file.proofs.ByteRunLemmas.{first_of_range, none_of_range}
use Rattle.dwg_file.proofs.byte_ranges.first_in_map.Goals as goal

pub returns-in-Some : goal.returns-in-Some
returns-in-Some c =
    first_of_range c.args.place c.args.runs.now.entries c.next.new.self (c.in-Some.last.now, c.in-Some.first.now) (sym (c.range.ensures.between tt) ∙ c.in-Some.ensures.steps)

pub returns-in-None : goal.returns-in-None
returns-in-None c = none_of_range c.args.place c.args.runs.now.entries (sym (c.range.ensures.between tt) ∙ c.in-None.ensures.steps.0)
