use Rattle.std.proofs.Common.{ℕ, ◌-◌}
use Rattle.std.specs.Prelude.{◌==◌}
use Rattle.dwg_bits.specs.Cursor.{rest}
use Rattle.dwg_grammar.specs.Codes.{rc}
use Rattle.dwg_grammar.specs.Combinators.{always}
use Rattle.dwg_common.specs.Parsing.{Keeps}
use Rattle.dwg_common.proofs.UntilReading.{AreBegun}
use Rattle.dwg_tables.proofs.insert_marks.read_counts.Given as goal

-- the counts so far are read
abbrev pub invariant-marks : goal.invariant-marks
invariant-marks l = record {
  so_far : AreBegun rc (λ count. count == 0) (λ (count : ℕ). always count) l.counts (rest l.fn.cursor) (rest l.cursor);
  kept : Keeps l.fn.cursor l.cursor;
}

-- each turn takes bits
abbrev pub decreases-marks : goal.decreases-marks
decreases-marks l = l.cursor.end - l.cursor.place
