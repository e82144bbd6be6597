use Rattle.std.proofs.Common.{◌≡◌, ◌≤◌, ◌-◌, length, take}
use Rattle.std.specs.Io.KnownBytes.{Appends}
use Rattle.dwg_base.proofs.device.put_all.Given as goal

abbrev pub invariant-loop-sent : goal.invariant-loop-sent
invariant-loop-sent g l = record {
  within : l.sent ≤ length l.piece;
  sent_prefix : Appends (g.W.Sink.taken l.fn.sink) (g.W.Sink.taken l.sink) (take l.sent l.piece);
  quiet : g.W.Sink.faults l.sink ≡ g.W.Sink.faults l.fn.sink;
}

abbrev pub decreases-loop-sent : goal.decreases-loop-sent
decreases-loop-sent g l = length l.piece - l.sent
