use Rattle.std.proofs.Common.{sym, ◌∙◌, ap, arith}
use Rattle.dwg_file.specs.ByteRanges.{begins_before}
use Rattle.dwg_file.proofs.ByteRunLemmas.{decides, row_ended}
use Rattle.dwg_file.proofs.byte_ranges.row_shares.Goals as goal

pub returns-then-last-from : goal.returns-then-last-from
returns-then-last-from c = sym (row_ended c.args.last c.args.from c.args.end c.args.row.now c.requires (omega (arith, c.if-last-from.true)))

pub returns : goal.returns
returns c = c.is_begun.ensures ∙ ap (begins_before c.args.end) c.first_in_row.ensures ∙ decides c.args.from c.args.end c.args.row.now c.requires.are
