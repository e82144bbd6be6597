use Rattle.std.proofs.Common.{◌-◌, ◌≤◌, drop, length}
use Rattle.dwg_bits.specs.Bits.{bits}
use Rattle.dwg_codes.proofs.ListReading.{AreRead}
use Rattle.dwg_appitems.specs.Items.{item}
use Rattle.dwg_appitems.proofs.reading.read_items.Given as goal

-- the items so far are read, and the bytes from the place on are left
abbrev pub invariant-items : goal.invariant-items
invariant-items l = record {
  so_far : AreRead item l.found (bits l.bytes) (bits (drop l.place l.bytes));
  within : l.place ≤ length l.bytes;
}

-- each turn takes bytes
abbrev pub decreases-items : goal.decreases-items
decreases-items l = length l.bytes - l.place
