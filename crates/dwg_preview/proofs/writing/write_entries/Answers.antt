use Rattle.std.proofs.Common.{arith}
use Rattle.dwg_preview.proofs.PreviewWriting.{no_entry_written, one_entry_written}
use Rattle.dwg_preview.proofs.writing.write_entries.Goals as goal

pub entries-init : goal.entries-init
entries-init c = record {
  written = no_entry_written _ c.args.from c.args.to c.args.content.now 1;
  spare = omega arith;
}

pub entries-preserved : goal.entries-preserved
entries-preserved c = record {
  written = one_entry_written _ _ _ c.args.from c.args.to c.entries.i c.args.content.now c.entries.invariant.written c.write_entry.ensures;
  spare = omega (arith, c.entries.invariant.spare, c.write_entry.ensures.spare);
}
