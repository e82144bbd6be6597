use Rattle.std.proofs.Common.{◌≡◌, ◌-◌, ◌≤◌}
use Rattle.dwg_bits.specs.Bits.{num}
use Rattle.dwg_bits.specs.Cursor.{bits_between}
use Rattle.dwg_bits.proofs.words.by_bytes.Given as goal

-- the value so far is that of the bits up to the place
abbrev pub invariant-bytes : goal.invariant-bytes
invariant-bytes l = record {
  ordered : l.from ≤ l.place;
  inside : l.place ≤ l.to;
  value : l.value ≡ num (bits_between l.bytes l.from l.place);
}

abbrev pub decreases-bytes : goal.decreases-bytes
decreases-bytes l = l.to - l.place
