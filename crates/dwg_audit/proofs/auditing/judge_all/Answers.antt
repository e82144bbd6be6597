use Rattle.std.proofs.Common.{rules, ◌+◌, map, arith}
use Rattle.std.proofs.lemmas.List.{length-map}
use Rattle.dwg_base.proofs.OneOfAll.{one_of_all}
use Rattle.dwg_audit.proofs.Judging.{one_further, findings_begin, all_found}
use Rattle.dwg_audit.specs.Findings.{findings_of}
use Rattle.dwg_graph.proofs.Counting.{value_there}
use Rattle.dwg_graph.specs.Owners.{spaces}
use Rattle.dwg_object.specs.Objects.{value_of}
use Rattle.dwg_object.specs.Written.{IsWhole}
use Rattle.dwg_audit.proofs.auditing.judge_all.Goals as goal

pub objects-init : goal.objects-init
objects-init c = findings_begin (map value_of c.args.objects.now) c.new-found.result c.push_control.new.found c.new-found.ensures (search rules)

pub judge-requires-clause-standing : goal.judge-requires-clause-standing
judge-requires-clause-standing c =
    c.standing_at.ensures (value_of c.index-objects-place.result) (value_there c.args.objects.now c.objects.place c.index-objects-place.result c.objects-test.true c.index-objects-place.is)

pub judge-requires-clause-known : goal.judge-requires-clause-known
judge-requires-clause-known c = c.requires.tables.known

pub judge-requires-clause-held_slots : goal.judge-requires-clause-held_slots
judge-requires-clause-held_slots c =
    c.slots_at.ensures (value_of c.index-objects-place.result)
    (value_there c.args.objects.now c.objects.place c.index-objects-place.result c.objects-test.true c.index-objects-place.is)

pub judge-requires-clause-places : goal.judge-requires-clause-places
judge-requires-clause-places c =
    c.places_at.ensures (value_of c.index-objects-place.result)
    (value_there c.args.objects.now c.objects.place c.index-objects-place.result c.objects-test.true c.index-objects-place.is)

pub judge-requires-clause-whole : goal.judge-requires-clause-whole
judge-requires-clause-whole c =
    one_of_all IsWhole (map value_of c.args.objects.now) c.objects.place (value_of c.index-objects-place.result) c.requires.whole
    (value_there c.args.objects.now c.objects.place c.index-objects-place.result c.objects-test.true c.index-objects-place.is)

pub objects-preserved : goal.objects-preserved
objects-preserved c =
    one_further (findings_of (map value_of c.args.objects.now) (spaces (map value_of c.args.objects.now))) (map value_of c.args.objects.now) c.objects.place (c.objects.place + 1)
    (value_of c.index-objects-place.result) c.objects.found c.judge.new.found _
    (value_there c.args.objects.now c.objects.place c.index-objects-place.result c.objects-test.true c.index-objects-place.is)
    (omega arith) c.objects.invariant (search rules)

pub returns : goal.returns
returns c =
    all_found (findings_of (map value_of c.args.objects.now) (spaces (map value_of c.args.objects.now))) (map value_of c.args.objects.now) c.objects.place c.objects.found _
    (omega (arith, c.objects-test.false, length-map c.args.objects.now value_of)) c.objects.invariant
