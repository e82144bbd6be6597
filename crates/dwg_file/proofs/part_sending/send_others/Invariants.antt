use Rattle.std.proofs.Common.{◌≡◌, drop}
use Rattle.dwg_file.specs.Contents.{OtherValue, other_value}
use Rattle.dwg_file.proofs.PlanLoops.{AreGiven}
use Rattle.dwg_file.proofs.part_sending.send_others.Given as goal

-- what is given so far and what is left give the whole
abbrev pub invariant-others : goal.invariant-others
invariant-others g l = record {
  given : AreGiven other_value (λ (other : OtherValue). other.bytes) l.others (drop l.other-index l.others) (g.W.Sink.taken l.fn.sink) (g.W.Sink.taken l.sink) l.fn.buffer l.buffer;
  counts : g.W.Sink.faults l.sink ≡ g.W.Sink.faults l.fn.sink;
}
