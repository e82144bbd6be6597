use Rattle.std.proofs.Common.{arith}
use Rattle.dwg_cert.proofs.EntryWriting.{no_entry_put, one_entry_put, one_handle_more, have_handles}
use Rattle.dwg_cert.proofs.writing.write_entries.Goals as goal

pub entries-init : goal.entries-init
entries-init c = record {
  written = no_entry_put _ c.args.entries.now;
  spare = omega arith;
  handles = λ k d below. absurd (omega arith);
}

pub entries-preserved : goal.entries-preserved
entries-preserved c = record {
  written = one_entry_put _ _ _ c.args.entries.now c.entries.entry-index c.entry-item.result c.entry-item.result c.entries-test.true c.entry-item.is c.entries.invariant.written c.write_entry.ensures.written;
  spare = omega (arith, c.entries.invariant.spare, c.write_entry.ensures.spare);
  handles = one_handle_more c.args.entries.now c.entries.entry-index c.entry-item.result c.entry-item.result c.entries-test.true c.entry-item.is c.write_entry.ensures.handle c.entries.invariant.handles;
}

pub returns-clause-handles : goal.returns-clause-handles
returns-clause-handles c = have_handles c.args.entries.now (λ k d below. c.entries.invariant.handles k d (omega arith))
