use Rattle.std.proofs.Common.{ℕ, ◌+◌, ◌*◌, ◌^◌, ◌<◌, ◌≤◌, take, get_or}
use Rattle.std.specs.List.{flat_map}
use Rattle.dwg_bits.specs.Bits.{bits}
use Rattle.dwg_bits.specs.Sink.{Extends}
use Rattle.dwg_cert.specs.declared.entry.Entry.{Entry}
use Rattle.dwg_cert.specs.WrittenForm.{entry_bytes}
use Rattle.dwg_cert.proofs.writing.write_entries.Given as goal

-- the entries up to the index are written, and their handles are read
abbrev pub invariant-entries : goal.invariant-entries
invariant-entries l = record {
  written : Extends l.fn.sink l.sink (bits (flat_map entry_bytes (take l.entry-index l.entries)));
  spare : l.fn.sink.spare ≤ l.sink.spare + 192 * l.entry-index;
  handles : (k : ℕ) (d : Entry) → k < l.entry-index → (get_or l.entries k d).handle < 2 ^ 63;
}
