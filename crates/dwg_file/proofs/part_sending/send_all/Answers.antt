use Rattle.std.proofs.Common.{refl, ◌∙◌, ℕ, List, Bor}
use Rattle.std.proofs.lemmas.List.{get_or_default}
use Rattle.std.proofs.lemmas.Result.{err_from_is_err_and}
use Rattle.dwg_file.proofs.PlanLoops.{none_given, one_given, one_cut, all_given}
use Rattle.dwg_file.proofs.part_sending.send_all.Goals as goal

pub pieces-init : goal.pieces-init
pieces-init g c = record { given = none_given (λ (piece : Bor (List ℕ)). piece.now) (λ (bytes : List ℕ). bytes) c.args.pieces.now (g.W.Sink.taken c.args.sink.now) c.args.buffer.now; counts = refl }

pub returns-in_err-write-clause-writes : goal.returns-in_err-write-clause-writes
returns-in_err-write-clause-writes g c =
    let p = err_from_is_err_and c.from_residual.result c.from_residual.ensures.1 in
    rw p.1 (
    one_cut (λ (piece : Bor (List ℕ)). piece.now) (λ (bytes : List ℕ). bytes) c.args.pieces.now c.pieces.index _ (g.W.Sink.taken c.args.sink.now) (g.W.Sink.taken c.pieces.sink) (g.W.Sink.taken c.write.new.sink) c.args.buffer.now c.pieces.buffer c.pieces-test.true (get_or_default c.args.pieces.now c.pieces.index _ _ c.pieces-test.true)
    c.in_err-write.ensures.writes c.pieces.invariant.given
    )

pub pieces-preserved : goal.pieces-preserved
pieces-preserved g c = record {
  given =
      one_given (λ (piece : Bor (List ℕ)). piece.now) (λ (bytes : List ℕ). bytes) c.args.pieces.now c.pieces.index _ (g.W.Sink.taken c.args.sink.now) (g.W.Sink.taken c.pieces.sink) (g.W.Sink.taken c.write.new.sink) c.args.buffer.now c.pieces.buffer
      c.write.new.self c.pieces-test.true (get_or_default c.args.pieces.now c.pieces.index _ _ c.pieces-test.true) c.in_ok-write.ensures.writes c.pieces.invariant.given;
  counts = c.in_ok-write.ensures.counts.ok ∙ c.pieces.invariant.counts;
}

pub returns-clause-writes : goal.returns-clause-writes
returns-clause-writes g c =
    all_given (λ (piece : Bor (List ℕ)). piece.now) (λ (bytes : List ℕ). bytes) c.args.pieces.now c.pieces.index (g.W.Sink.taken c.args.sink.now) (g.W.Sink.taken c.pieces.sink) c.args.buffer.now c.pieces.buffer c.pieces-test.false c.pieces.invariant.given
