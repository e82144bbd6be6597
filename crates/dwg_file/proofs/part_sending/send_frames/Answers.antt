use Rattle.std.proofs.Common.{refl, ◌∙◌, ◌+◌, length, arith}
use Rattle.std.proofs.lemmas.Result.{err_from_is_err_and}
use Rattle.dwg_object.specs.Frames.{frame_bytes}
use Rattle.dwg_object.specs.Objects.{value_of}
use Rattle.dwg_file.specs.Plans.{CanBeSent}
use Rattle.dwg_file.proofs.PlanLoops.{holds_here}
use Rattle.dwg_file.proofs.PlanFacts.{sent_with_more}
use Rattle.dwg_file.proofs.PlanLoops.{none_given, one_given, one_cut, all_given}
use Rattle.dwg_file.proofs.part_sending.send_frames.Goals as goal

pub objects-init : goal.objects-init
objects-init g c = record { given = none_given value_of (frame_bytes c.args.version) c.args.objects.now (g.W.Sink.taken c.args.sink.now) c.args.buffer.now; counts = refl; room = omega arith; can = c.requires }

pub returns-in_err-send_frame-clause-writes : goal.returns-in_err-send_frame-clause-writes
returns-in_err-send_frame-clause-writes g c =
    let p = err_from_is_err_and c.from_residual.result c.from_residual.ensures.1 in
    rw p.1 (
    one_cut value_of (frame_bytes c.args.version) c.args.objects.now c.objects.object-index c.object-item.result (g.W.Sink.taken c.args.sink.now) (g.W.Sink.taken c.objects.sink) (g.W.Sink.taken c.send_frame.new.sink) c.args.buffer.now c.objects.buffer c.objects-test.true c.object-item.is
    c.in_err-send_frame.ensures.writes c.objects.invariant.given
    )

pub objects-preserved : goal.objects-preserved
objects-preserved g c = record {
  given =
      one_given value_of (frame_bytes c.args.version) c.args.objects.now c.objects.object-index c.object-item.result (g.W.Sink.taken c.args.sink.now) (g.W.Sink.taken c.objects.sink) (g.W.Sink.taken c.send_frame.new.sink) c.args.buffer.now c.objects.buffer
      c.send_frame.new.buffer c.objects-test.true c.object-item.is c.in_ok-send_frame.ensures.writes c.objects.invariant.given;
  counts = c.in_ok-send_frame.ensures.counts.ok ∙ c.objects.invariant.counts;
  room = omega (arith, c.objects.invariant.room, c.in_ok-send_frame.ensures.room);
  can = (holds_here value_of (frame_bytes c.args.version) (CanBeSent c.args.version (c.args.part.now.spare + length c.args.part.now.written)) c.args.objects.now c.objects.object-index c.object-item.result c.objects-test.true c.object-item.is c.objects.invariant.can).1;
}

pub returns-clause-writes : goal.returns-clause-writes
returns-clause-writes g c =
    all_given value_of (frame_bytes c.args.version) c.args.objects.now c.objects.object-index (g.W.Sink.taken c.args.sink.now) (g.W.Sink.taken c.objects.sink) c.args.buffer.now c.objects.buffer c.objects-test.false c.objects.invariant.given

pub send_frame-requires : goal.send_frame-requires
send_frame-requires g c =
    sent_with_more _ _ _ _ c.objects.invariant.room
    (holds_here value_of (frame_bytes c.args.version) (CanBeSent c.args.version (c.args.part.now.spare + length c.args.part.now.written)) c.args.objects.now c.objects.object-index c.object-item.result c.objects-test.true c.object-item.is c.objects.invariant.can).0
