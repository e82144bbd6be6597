use Rattle.std.proofs.Common.{subst, List, map, take, arith}
use Rattle.std.proofs.lemmas.List.{length-map, take_all}
use Rattle.dwg_audit.proofs.Slicing.{one_object_more}
use Rattle.dwg_audit.specs.Lookups.{AreGathered}
use Rattle.dwg_object.specs.Objects.{ObjectValue, value_of}
use Rattle.dwg_audit.proofs.lookups.gather.Goals as goal

pub objects-init : goal.objects-init
objects-init c = c.in_ok-gathered.ensures c.args.known.now

pub objects-preserved : goal.objects-preserved
objects-preserved c =
    subst (λ (prefix : List ObjectValue). AreGathered prefix c.args.known.now c.in_ok-gathered-2.gathered)
    (one_object_more c.args.objects.now c.objects.object-index c.object-item.result c.objects-test.true c.object-item.is)
    (c.in_ok-gathered-2.ensures (take c.objects.object-index (map value_of c.args.objects.now)) c.objects.invariant)

pub returns : goal.returns
returns c =
    subst (λ (prefix : List ObjectValue). AreGathered prefix c.args.known.now c.objects.gathered)
    (take_all c.objects.object-index (map value_of c.args.objects.now) (omega (arith, c.objects-test.false, length-map c.args.objects.now value_of))) c.objects.invariant
