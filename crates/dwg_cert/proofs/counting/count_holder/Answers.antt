use Rattle.std.proofs.Common.{refl, sym, map, arith}
use Rattle.dwg_cert.proofs.Checking.{all_fail, all_further}
use Rattle.dwg_cert.specs.Checked.{are_met}
use Rattle.dwg_graph.proofs.SlotLoops.{none_counted, one_counted, still_open}
use Rattle.dwg_graph.specs.Slots.{slots}
use Rattle.dwg_graph.specs.Tests.{is_met}
use Rattle.dwg_object.specs.Objects.{value_of}
use Rattle.dwg_cert.proofs.counting.count_holder.Goals as goal

pub slots-init : goal.slots-init
slots-init c = record { counted = none_counted (map value_of c.args.objects.now) c.args.known.now (value_of c.args.holder.now) c.args.claimed.now; left = refl }

pub returns-then-not-is_met-clause-met : goal.returns-then-not-is_met-clause-met
unfolding are_met slots
returns-then-not-is_met-clause-met c =
    all_fail (is_met (map value_of c.args.objects.now) (value_of c.args.holder.now)) (slots (value_of c.args.holder.now)) c.slots.i c.slot_at-slot.result _ c.slot_at-slot.ensures (sym c.if-not-is_met.ensures)
    c.slots.invariant.left

pub count_slot-requires-clause-room : goal.count_slot-requires-clause-room
count_slot-requires-clause-room c =
    still_open (map value_of c.args.objects.now) c.args.known.now (value_of c.args.holder.now) c.slots.i c.args.claimed.now c.slots.claimed
    (omega (arith, c.slots-test.true, c.slot_count-i-end.ensures)) c.requires.room c.slots.invariant.counted

pub slots-preserved : goal.slots-preserved
slots-preserved c = record {
  counted = one_counted (map value_of c.args.objects.now) c.args.known.now (value_of c.args.holder.now) c.slots.i c.slot_at-slot.result c.args.claimed.now c.slots.claimed c.count_slot.new.claimed
      c.slot_at-slot.ensures c.slots.invariant.counted c.count_slot.ensures;
  left = all_further (is_met (map value_of c.args.objects.now) (value_of c.args.holder.now)) (slots (value_of c.args.holder.now)) c.slots.i c.slot_at-slot.result _ c.slot_at-slot.ensures
      (sym c.if-not-is_met.ensures) c.slots.invariant.left;
}
