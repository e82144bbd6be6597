use Rattle.std.proofs.Common.{◌≤◌, arith}
use Rattle.dwg_object.specs.Frames.{frame_bytes}
use Rattle.dwg_object.specs.Objects.{value_of}
use Rattle.dwg_file.proofs.PlanLoops.{one_counted, holds_here}
use Rattle.dwg_file.proofs.PlanFacts.{one_fits, none_left_fits, placed_one}
use Rattle.dwg_file.specs.Plans.{CanBeFramed}
use Rattle.dwg_file.proofs.frame_layout.place_objects.Goals as goal

pub objects-preserved : goal.objects-preserved
objects-preserved c = record {
  counted =
      one_counted value_of (frame_bytes c.args.version) c.args.objects.now c.objects.object-index c.object-item.result c.args.from c.objects.place c.frame_length-frame.result c.objects-test.true c.object-item.is
      c.frame_length-frame.ensures.length c.objects.invariant.counted;
  whole =
      placed_one c.args.version c.args.objects.now c.objects.object-index c.object-item.result c.args.from c.objects.place c.frame_length-frame.result c.handle.result c.objects.pairs.items c.push.new.self.items
      c.objects-test.true c.object-item.is c.frame_length-frame.ensures.length c.handle.ensures c.in_ok-push.ensures.items c.objects.invariant.whole;
  framed = (holds_here value_of (frame_bytes c.args.version) (CanBeFramed c.args.version) c.args.objects.now c.objects.object-index c.object-item.result c.objects-test.true c.object-item.is c.objects.invariant.framed).1;
  fit = λ most within left.
      let both : c.room_of_frame.result ≤ most = omega (arith, within, c.max-part.ensures) in
      let before : c.objects.part ≤ most = omega (arith, within, c.max-part.ensures) in
      c.objects.invariant.fit most before (one_fits c.args.version c.args.objects.now c.objects.object-index c.object-item.result most c.room_of_frame.result c.objects-test.true c.object-item.is c.room_of_frame.ensures.room both left);
  few = omega (arith, c.max-part.ensures, c.room_of_frame.ensures.few, c.objects.invariant.few);
}

pub returns-clause-part : goal.returns-clause-part
returns-clause-part c = c.objects.invariant.fit c.objects.part (omega arith) (none_left_fits c.args.version c.args.objects.now c.objects.object-index c.objects.part c.objects-test.false)
