use Rattle.std.proofs.Common.{◌≡◌, ◌-◌, ◌*◌, length}
use Rattle.dwg_bits.specs.Cursor.{rest}
use Rattle.dwg_classes.proofs.ContentReading.{AreReadSoFar}
use Rattle.dwg_classes.proofs.reading.read_classes.Given as goal

-- the classes so far are those that the cursor went over
abbrev pub invariant-classes : goal.invariant-classes
invariant-classes l = record {
  read : AreReadSoFar l.content l.classes l.cursor.place (rest l.cursor);
  bytes : l.cursor.bytes.now ≡ l.content;
  end : l.cursor.end ≡ 8 * length l.content;
}

abbrev pub decreases-classes : goal.decreases-classes
decreases-classes l = l.cursor.end - l.cursor.place
