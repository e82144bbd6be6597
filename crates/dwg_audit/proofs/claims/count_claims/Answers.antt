use Rattle.dwg_graph.proofs.Counting.{value_there}
use Rattle.dwg_graph.proofs.HolderLoops.{one_counted, still_open, both_counted}
use Rattle.dwg_object.specs.Objects.{value_of}
use Rattle.dwg_audit.proofs.claims.count_claims.Goals as goal

pub count_holder-requires-clause-held_slots : goal.count_holder-requires-clause-held_slots
count_holder-requires-clause-held_slots c = c.slots_at-held.ensures (value_of c.index-objects-place.result)
    (value_there c.args.objects.now c.objects.place c.index-objects-place.result c.objects-test.true c.index-objects-place.is)

pub count_holder-requires-clause-places : goal.count_holder-requires-clause-places
count_holder-requires-clause-places c = c.places_at-places.ensures (value_of c.index-objects-place.result)
    (value_there c.args.objects.now c.objects.place c.index-objects-place.result c.objects-test.true c.index-objects-place.is)

pub count_holder-requires-clause-room : goal.count_holder-requires-clause-room
count_holder-requires-clause-room c =
    still_open c.args.objects.now c.args.known.now c.objects.place c.index-objects-place.result c.objects.claimed c.objects-test.true c.index-objects-place.is c.requires.few c.objects.invariant

pub objects-preserved : goal.objects-preserved
objects-preserved c =
    one_counted c.args.objects.now c.args.known.now c.objects.place c.index-objects-place.result c.objects.claimed c.count_holder.new.claimed c.objects-test.true c.index-objects-place.is
    c.objects.invariant c.count_holder.ensures

pub returns : goal.returns
returns c = both_counted c.args.objects.now c.args.known.now c.objects.place c.objects.claimed c.objects-test.false c.objects.invariant
