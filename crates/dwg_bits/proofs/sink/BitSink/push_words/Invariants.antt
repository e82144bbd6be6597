use Rattle.std.proofs.Common.{◌≡◌, ◌+◌, ◌-◌, ◌≤◌, ◌++◌}
use Rattle.dwg_bits.specs.Cursor.{bits_between}
use Rattle.dwg_bits.proofs.sink.BitSink.push_words.Given as goal

-- the bits up to the place are written
abbrev pub invariant-words : goal.invariant-words
invariant-words l = record {
  ordered : l.from ≤ l.place;
  inside : l.place ≤ l.to;
  bits : l.self.written ≡ l.fn.self.written ++ bits_between l.bytes l.from l.place;
  spare : l.fn.self.spare + l.from ≤ l.self.spare + l.place;
}

abbrev pub decreases-words : goal.decreases-words
decreases-words l = l.to - l.place
