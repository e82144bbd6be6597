use Rattle.std.proofs.Common.{◌-◌, ◌≤◌, length, take}
use Rattle.std.specs.Prelude.{flat_map}
use Rattle.dwg_text.specs.Lines.{byte_digits}
use Rattle.dwg_text.specs.Writing.{WritesText}
use Rattle.dwg_text.proofs.bytes.write_digits.Given as goal

-- the digits of the bytes so far are written
abbrev pub invariant-runs : goal.invariant-runs
invariant-runs g l =
    (l.at ≤ length l.bytes)
    × WritesText l.initial.writer l.writer (g.W.Sink.taken l.initial.sink) (g.W.Sink.taken l.sink) (g.W.Sink.faults l.initial.sink) (g.W.Sink.faults l.sink)
    (flat_map byte_digits (take l.at l.bytes))

abbrev pub decreases-runs : goal.decreases-runs
decreases-runs g l = length l.bytes - l.at
