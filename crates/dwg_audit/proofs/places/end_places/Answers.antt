use Rattle.std.proofs.Common.{sym, ap, ◌∙◌, map, arith}
use Rattle.std.proofs.lemmas.Grind.{common_steps}
use Rattle.dwg_audit.proofs.GivenSlots.{places_long}
use Rattle.dwg_audit.specs.Lookups.{slot_places}
use Rattle.dwg_graph.specs.Places.{handles_of}
use Rattle.dwg_graph.specs.Slots.{slots}
use Rattle.dwg_graph.proofs.Counting.{value_there}
use Rattle.dwg_object.specs.Objects.{value_of}
use Rattle.dwg_audit.proofs.places.end_places.Goals as goal

pub ends_at-requires-clause-count : goal.ends_at-requires-clause-count
ends_at-requires-clause-count c =
    let x = value_of c.index-objects-place.result in
    let at = value_there c.args.objects.now c.objects.place c.index-objects-place.result c.objects-test.true c.index-objects-place.is in
    places_long (handles_of (map value_of c.args.objects.now)) (slots x) c.slots_at-held.result.now c.places_at-places.result.now (c.slots_at-held.ensures x at) (c.places_at-places.ensures x at)

pub objects-preserved : goal.objects-preserved
objects-preserved c =
    let x = value_of c.index-objects-place.result in
    let at = value_there c.args.objects.now c.objects.place c.index-objects-place.result c.objects-test.true c.index-objects-place.is in
    let handles = handles_of (map value_of c.args.objects.now) in
    let ends = c.ends_at.ensures handles (c.places_at-places.ensures x at ∙ ap (slot_places handles) (sym (c.slots_at-held.ensures x at))) in
    grind (arith, common_steps, ends)
