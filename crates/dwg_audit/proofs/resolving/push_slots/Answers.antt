use Rattle.std.proofs.Common.{rules, ◌+◌, map, arith}
use Rattle.dwg_audit.proofs.Choosing.{chosen_further}
use Rattle.dwg_audit.proofs.GivenSlots.{slot_there, places_long, place_there}
use Rattle.dwg_audit.specs.Findings.{unmet}
use Rattle.dwg_graph.specs.Places.{handles_of}
use Rattle.dwg_graph.specs.Slots.{slots}
use Rattle.dwg_object.specs.Objects.{value_of}
use Rattle.dwg_audit.proofs.resolving.push_slots.Goals as goal

pub place_at-requires : goal.place_at-requires
place_at-requires c =
    omega (arith, c.slots-test.true, places_long (handles_of (map value_of c.args.objects.now)) (slots (value_of c.args.object.now)) c.args.held.now c.args.places.now c.requires.held_slots c.requires.places)

pub push_chosen-requires-clause-place : goal.push_chosen-requires-clause-place
push_chosen-requires-clause-place c =
    place_there (handles_of (map value_of c.args.objects.now)) (slots (value_of c.args.object.now)) c.args.held.now c.args.places.now c.slots.i c.index-held-i.result c.place_at.result
    c.requires.held_slots c.requires.places c.slots-test.true c.index-held-i.is c.place_at.ensures

pub slots-preserved : goal.slots-preserved
slots-preserved c =
    chosen_further c.args.applications (unmet (map value_of c.args.objects.now) (value_of c.args.object.now)) (slots (value_of c.args.object.now)) c.slots.i (c.slots.i + 1)
    c.index-held-i.result c.slots.found c.push_chosen.new.found _
    (slot_there (slots (value_of c.args.object.now)) c.args.held.now c.slots.i c.index-held-i.result c.requires.held_slots c.slots-test.true c.index-held-i.is)
    (omega arith) c.slots.invariant (search rules)
