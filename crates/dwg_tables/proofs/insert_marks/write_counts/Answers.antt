use Rattle.std.proofs.Common.{map}
use Rattle.dwg_tables.specs.BlockHeaderBody.{count_of}
use Rattle.dwg_tables.proofs.MarkParts.{counts_written}
use Rattle.dwg_tables.proofs.insert_marks.write_counts.Goals as goal

pub returns : goal.returns
returns c = counts_written (map count_of c.args.marks.now) _ _ _ c.write_parts.ensures c.write.ensures
