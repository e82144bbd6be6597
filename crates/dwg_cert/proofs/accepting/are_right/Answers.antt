use Rattle.std.proofs.Common.{◌∙◌, sym, ap, List}
use Rattle.std.specs.List.{slice_get}
use Rattle.dwg_cert.proofs.Checking.{all_fail, all_further}
use Rattle.dwg_cert.specs.AcceptTests.{is_right}
use Rattle.dwg_graph.proofs.Counting.{value_there}
use Rattle.dwg_object.specs.Objects.{ObjectValue, value_of}
use Rattle.dwg_cert.proofs.accepting.are_right.Goals as goal

pub returns-then-not-is_right : goal.returns-then-not-is_right
returns-then-not-is_right c =
    let object = c.index-objects-place.result in
    let there = value_there c.args.objects.now c.objects.place object c.objects-test.true c.index-objects-place.is in
    all_fail (is_right c.args.checker.now.objects c.args.checker.now.cert) c.args.checker.now.objects c.objects.place (value_of object) _
    (ap (λ (all : List ObjectValue). slice_get all c.objects.place) c.requires ∙ there) (sym c.if-not-is_right.ensures) c.objects.invariant

pub objects-preserved : goal.objects-preserved
objects-preserved c =
    let object = c.index-objects-place.result in
    let there = value_there c.args.objects.now c.objects.place object c.objects-test.true c.index-objects-place.is in
    all_further (is_right c.args.checker.now.objects c.args.checker.now.cert) c.args.checker.now.objects c.objects.place (value_of object) _
    (ap (λ (all : List ObjectValue). slice_get all c.objects.place) c.requires ∙ there) (sym c.if-not-is_right.ensures) c.objects.invariant
