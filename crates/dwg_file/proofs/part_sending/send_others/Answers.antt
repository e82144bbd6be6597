use Rattle.std.proofs.Common.{refl, ◌∙◌}
use Rattle.std.proofs.lemmas.Result.{err_from_is_err_and}
use Rattle.dwg_file.specs.Contents.{OtherValue, other_value}
use Rattle.dwg_file.proofs.PlanLoops.{none_given, one_given, one_cut, all_given}
use Rattle.dwg_file.proofs.part_sending.send_others.Goals as goal

pub others-init : goal.others-init
others-init g c = record { given = none_given other_value (λ (other : OtherValue). other.bytes) c.args.others.now (g.W.Sink.taken c.args.sink.now) c.args.buffer.now; counts = refl }

pub returns-in_err-write-clause-writes : goal.returns-in_err-write-clause-writes
returns-in_err-write-clause-writes g c =
    let p = err_from_is_err_and c.from_residual.result c.from_residual.ensures.1 in
    rw p.1 (
    one_cut other_value (λ (other : OtherValue). other.bytes) c.args.others.now c.others.other-index c.other-item.result (g.W.Sink.taken c.args.sink.now) (g.W.Sink.taken c.others.sink) (g.W.Sink.taken c.write.new.sink) c.args.buffer.now c.others.buffer c.others-test.true c.other-item.is
    (rw c.as_slice.ensures at c.in_err-write.ensures.writes) c.others.invariant.given
    )

pub others-preserved : goal.others-preserved
others-preserved g c = record {
  given =
      one_given other_value (λ (other : OtherValue). other.bytes) c.args.others.now c.others.other-index c.other-item.result (g.W.Sink.taken c.args.sink.now) (g.W.Sink.taken c.others.sink) (g.W.Sink.taken c.write.new.sink) c.args.buffer.now c.others.buffer
      c.write.new.self c.others-test.true c.other-item.is (rw c.as_slice.ensures at c.in_ok-write.ensures.writes) c.others.invariant.given;
  counts = c.in_ok-write.ensures.counts.ok ∙ c.others.invariant.counts;
}

pub returns-clause-writes : goal.returns-clause-writes
returns-clause-writes g c =
    all_given other_value (λ (other : OtherValue). other.bytes) c.args.others.now c.others.other-index (g.W.Sink.taken c.args.sink.now) (g.W.Sink.taken c.others.sink) c.args.buffer.now c.others.buffer c.others-test.false c.others.invariant.given
