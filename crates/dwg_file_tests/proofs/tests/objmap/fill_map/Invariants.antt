use Rattle.std.proofs.Common.{◌≡◌, false}
use Rattle.dwg_file_tests.proofs.tests.objmap.fill_map.Given as goal

-- the writer is open, and its last handle is the last one that was put
abbrev pub invariant-handles : goal.invariant-handles
invariant-handles l = record {
  still_open : l.writer.ended ≡ false;
  last : l.writer.last.handle ≡ l.handle;
}
