use Rattle.std.proofs.Common.{◌≡◌, ◌-◌}
use Rattle.dwg_bits.specs.Cursor.{rest}
use Rattle.dwg_codes.proofs.ListReading.{AreRead}
use Rattle.dwg_codes.proofs.list.read_to_end.Given as goal

-- the values so far are read
abbrev pub invariant-values : goal.invariant-values
invariant-values g l = record {
  so_far : AreRead (g.C.BitCode.grammar l.context) l.found (rest l.fn.cursor) (rest l.ahead);
  bytes : l.ahead.bytes.now ≡ l.fn.cursor.bytes.now;
  end : l.ahead.end ≡ l.fn.cursor.end;
}

-- each turn takes bits
abbrev pub decreases-values : goal.decreases-values
decreases-values g l = l.ahead.end - l.ahead.place
