use Rattle.std.proofs.Common.{◌≡◌, length}
use Rattle.dwg_bits.specs.Cursor.{rest}
use Rattle.dwg_codes.proofs.ListReading.{AreRead}
use Rattle.dwg_codes.proofs.list.read_list.Given as goal

-- so many values as turns are read
abbrev pub invariant-values : goal.invariant-values
invariant-values g l = record {
  so_far : AreRead (g.C.BitCode.grammar l.context) l.found (rest l.fn.cursor) (rest l.ahead);
  counted : length l.found ≡ l.counter;
  bytes : l.ahead.bytes.now ≡ l.fn.cursor.bytes.now;
  end : l.ahead.end ≡ l.fn.cursor.end;
}
