use Rattle.std.proofs.Common.{◌+◌, ◌*◌, ◌≤◌}
use Rattle.dwg_sections.specs.Writing.{Puts}
use Rattle.dwg_preview.specs.Previews.{entries_moved}
use Rattle.dwg_preview.proofs.writing.write_entries.Given as goal

-- the entries up to the index are written
abbrev pub invariant-entries : goal.invariant-entries
invariant-entries l = record {
  written : Puts l.fn.sink l.sink (entries_moved l.from l.to l.i l.content 1);
  spare : l.fn.sink.spare ≤ l.sink.spare + 72 * l.i;
}
