use Rattle.std.proofs.Common.{◌∙◌, ap}
use Rattle.dwg_file.specs.ByteRanges.{begins_before}
use Rattle.dwg_file.proofs.ByteRunLemmas.{decides}
use Rattle.dwg_file.proofs.byte_ranges.map_shares.Goals as goal

pub returns : goal.returns
returns c = c.is_begun.ensures ∙ ap (begins_before c.args.end) c.first_in_map.ensures ∙ decides c.args.from c.args.end c.args.runs.now.entries c.requires
