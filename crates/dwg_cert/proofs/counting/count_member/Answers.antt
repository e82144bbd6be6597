use Rattle.std.proofs.Common.{◌≡◌, sym, ◌∙◌, map, length, arith}
use Rattle.std.proofs.lemmas.List.{length-map}
use Rattle.dwg_cert.proofs.MemberCounts.{home_by_owner, home_within, none_more, one_more, room_for_one}
use Rattle.dwg_graph.proofs.Counting.{value_there}
use Rattle.dwg_object.specs.Objects.{value_of}
use Rattle.dwg_cert.proofs.counting.count_member.Goals as goal

pub increment-requires-clause-within : goal.increment-requires-clause-within
increment-requires-clause-within c =
    let objects = map value_of c.args.objects.now in
    let object = c.index-objects-place.result in
    let there = value_there c.args.objects.now c.args.place object c.requires.place c.index-objects-place.is in
    let homed = home_by_owner objects c.args.known.now c.args.owners.now c.args.place (value_of object) c.reported_at.result c.home_of.result c.requires.owners there c.reported_at.ensures c.home_of.ensures in
    omega (arith, c.requires.counted.long, home_within objects c.args.known.now (value_of object) c.in-Some.home (sym homed ∙ c.in-Some.is))

pub increment-requires-clause-room : goal.increment-requires-clause-room
increment-requires-clause-room c =
    let objects = map value_of c.args.objects.now in
    let object = c.index-objects-place.result in
    let there = value_there c.args.objects.now c.args.place object c.requires.place c.index-objects-place.is in
    let homed = home_by_owner objects c.args.known.now c.args.owners.now c.args.place (value_of object) c.reported_at.result c.home_of.result c.requires.owners there c.reported_at.ensures c.home_of.ensures in
    let count : length objects ≡ length c.args.objects.now = length-map c.args.objects.now value_of in
    room_for_one objects c.args.known.now c.args.place c.in-Some.home c.args.counts.now.items (omega (arith, count, c.requires.few)) (omega (arith, count, c.requires.place)) c.requires.counted
    (home_within objects c.args.known.now (value_of object) c.in-Some.home (sym homed ∙ c.in-Some.is))

pub returns-in-Some : goal.returns-in-Some
returns-in-Some c =
    let objects = map value_of c.args.objects.now in
    let object = c.index-objects-place.result in
    let there = value_there c.args.objects.now c.args.place object c.requires.place c.index-objects-place.is in
    let homed = home_by_owner objects c.args.known.now c.args.owners.now c.args.place (value_of object) c.reported_at.result c.home_of.result c.requires.owners there c.reported_at.ensures c.home_of.ensures in
    one_more objects c.args.known.now c.args.place (value_of object) c.in-Some.home c.args.counts.now.items c.increment.new.counts.items c.requires.ascend there (sym homed ∙ c.in-Some.is) c.increment.ensures
    c.requires.counted

pub returns-in-None : goal.returns-in-None
returns-in-None c =
    let objects = map value_of c.args.objects.now in
    let object = c.index-objects-place.result in
    let there = value_there c.args.objects.now c.args.place object c.requires.place c.index-objects-place.is in
    let homed = home_by_owner objects c.args.known.now c.args.owners.now c.args.place (value_of object) c.reported_at.result c.home_of.result c.requires.owners there c.reported_at.ensures c.home_of.ensures in
    none_more objects c.args.known.now c.args.place (value_of object) c.args.counts.now.items c.requires.ascend there (sym homed ∙ c.in-None.is) c.requires.counted
