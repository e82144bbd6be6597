use Rattle.std.proofs.Common.{◌≡◌, ◌-◌, map}
use Rattle.std.specs.Prelude.{find}
use Rattle.std.specs.List.{range_with_len}
use Rattle.dwg_cert.specs.CertificateLines.{entry_stated_at, entry_fails, least_handle}
use Rattle.dwg_cert.proofs.reading.read_entries.Given as goal

-- the entries before the index are read, the least handle is that of the one there, and what is left to look at gives what all gives
abbrev pub invariant-entries : goal.invariant-entries
invariant-entries l = record {
  read : l.entries.items ≡ map (entry_stated_at l.bytes) (range_with_len 0 l.index);
  least : l.least ≡ least_handle l.bytes l.index;
  left : find (entry_fails l.bytes) (range_with_len l.index (l.count - l.index)) ≡ find (entry_fails l.bytes) (range_with_len 0 l.count);
}
