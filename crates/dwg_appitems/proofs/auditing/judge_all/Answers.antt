use Rattle.std.proofs.Common.{rules, length, map, subst}
use Rattle.std.specs.List.{sum_by}
use Rattle.dwg_appitems.specs.AppFindings.{apps_findings, apps_of}
use Rattle.dwg_appitems.specs.ItemLookups.{TakeAtMost}
use Rattle.dwg_appitems.proofs.FindingOrder.{objects_begin, object_further, objects_found}
use Rattle.dwg_appitems.proofs.LookupSteps.{all_left, taken_further, taken_so_far, taken_with, object_references, objects_referring}
use Rattle.dwg_object.specs.Objects.{ObjectValue, handle_of, value_of}
use Rattle.dwg_appitems.proofs.auditing.judge_all.Goals as goal

pub objects-init : goal.objects-init
objects-init g c = record {
  found = objects_begin (map value_of c.args.objects.now) c.new-found.result c.new-found.ensures;
  steps = all_left _ (sum_by object_references c.args.objects.now) _;
}

pub objects-preserved : goal.objects-preserved
objects-preserved g c = record {
  found =
      object_further value_of (λ (x : ObjectValue). apps_findings (map value_of c.args.objects.now) (handle_of x) 0 (apps_of x)) c.args.objects.now c.objects.place c.index-objects-place.result
      c.objects.found c.judge_apps.new.found _ c.objects-test.true c.index-objects-place.is c.objects.invariant.found (search rules);
  steps =
      taken_further object_references (length c.args.objects.now) c.args.objects.now c.objects.place c.index-objects-place.result _ _ _ _ c.objects-test.true c.index-objects-place.is
      c.objects.invariant.steps (search rules);
}

pub returns-clause-found : goal.returns-clause-found
returns-clause-found g c =
    objects_found value_of (λ (x : ObjectValue). apps_findings (map value_of c.args.objects.now) (handle_of x) 0 (apps_of x)) c.args.objects.now c.objects.place c.objects.found _ c.objects-test.false
    c.objects.invariant.found

pub returns-clause-steps : goal.returns-clause-steps
returns-clause-steps g c =
    subst (λ lookups. TakeAtMost (length c.args.objects.now) lookups c.args.steps.now c.objects.steps) (objects_referring c.args.objects.now)
    (taken_so_far (length c.args.objects.now) _ _ _ _ c.objects.invariant.steps)

pub returns-in_err-judge_apps-clause-steps : goal.returns-in_err-judge_apps-clause-steps
returns-in_err-judge_apps-clause-steps g c =
    subst (λ lookups. TakeAtMost (length c.args.objects.now) lookups c.args.steps.now c.judge_apps.new.steps) (objects_referring c.args.objects.now)
    (taken_with object_references (length c.args.objects.now) c.args.objects.now c.objects.place c.index-objects-place.result _ _ _ _ c.objects-test.true c.index-objects-place.is c.objects.invariant.steps
    (search rules))
