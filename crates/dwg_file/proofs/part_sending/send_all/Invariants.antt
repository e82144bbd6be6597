use Rattle.std.proofs.Common.{◌≡◌, drop}
use Rattle.dwg_file.proofs.PlanLoops.{AreGiven}
use Rattle.std.proofs.Common.{List, ℕ}
use Rattle.dwg_file.proofs.part_sending.send_all.Given as goal

-- what is given so far and what is left give the whole
abbrev pub invariant-pieces : goal.invariant-pieces
invariant-pieces g l = record {
  given : AreGiven (λ (piece : _). piece.now) (λ (bytes : List ℕ). bytes) l.pieces (drop l.index l.pieces) (g.W.Sink.taken l.fn.sink) (g.W.Sink.taken l.sink) l.fn.buffer l.buffer;
  counts : g.W.Sink.faults l.sink ≡ g.W.Sink.faults l.fn.sink;
}
