use Rattle.std.proofs.Common.{ap, length, map, arith}
use Rattle.dwg_audit.proofs.GivenSlots.{slot_there, places_long, place_there}
use Rattle.dwg_graph.proofs.SlotLoops.{none_counted, one_counted, still_open}
use Rattle.dwg_graph.specs.Places.{handles_of}
use Rattle.dwg_graph.specs.Slots.{slots}
use Rattle.dwg_object.specs.Objects.{value_of}
use Rattle.dwg_audit.proofs.claims.count_holder.Goals as goal

pub slots-init : goal.slots-init
slots-init c = none_counted (map value_of c.args.objects.now) c.args.known.now (value_of c.args.holder.now) c.args.claimed.now

pub count_slot-requires-clause-room : goal.count_slot-requires-clause-room
count_slot-requires-clause-room c =
    still_open (map value_of c.args.objects.now) c.args.known.now (value_of c.args.holder.now) c.slots.i c.args.claimed.now c.slots.claimed
    (omega (arith, c.slots-test.true, ap length c.requires.held_slots)) c.requires.room c.slots.invariant

pub slots-preserved : goal.slots-preserved
slots-preserved c =
    let slot = slot_there (slots (value_of c.args.holder.now)) c.args.held.now c.slots.i c.index-held-i.result c.requires.held_slots c.slots-test.true c.index-held-i.is in
    one_counted (map value_of c.args.objects.now) c.args.known.now (value_of c.args.holder.now) c.slots.i c.index-held-i.result c.args.claimed.now c.slots.claimed c.count_slot.new.claimed
    slot c.slots.invariant c.count_slot.ensures

pub place_at-requires : goal.place_at-requires
place_at-requires c =
    omega (arith, c.slots-test.true, places_long (handles_of (map value_of c.args.objects.now)) (slots (value_of c.args.holder.now)) c.args.held.now c.args.places.now c.requires.held_slots c.requires.places)

pub count_slot-requires-clause-place : goal.count_slot-requires-clause-place
count_slot-requires-clause-place c =
    place_there (handles_of (map value_of c.args.objects.now)) (slots (value_of c.args.holder.now)) c.args.held.now c.args.places.now c.slots.i c.index-held-i.result c.place_at.result
    c.requires.held_slots c.requires.places c.slots-test.true c.index-held-i.is c.place_at.ensures
