use Rattle.std.proofs.Common.{rules, length, map}
use Rattle.std.specs.List.{sum_by}
use Rattle.dwg_appitems.specs.ItemLookups.{app_references}
use Rattle.dwg_appitems.proofs.FindingOrder.{app_further, apps_found}
use Rattle.dwg_appitems.proofs.LookupSteps.{all_left, taken_further, taken_so_far}
use Rattle.dwg_object.specs.Objects.{value_of}
use Rattle.dwg_appitems.proofs.auditing.judge_apps.Goals as goal

pub apps-init : goal.apps-init
apps-init g c = record { found = (search); steps = all_left _ (sum_by app_references c.args.apps.now) _ }

pub apps-preserved : goal.apps-preserved
apps-preserved g c = record {
  found =
      app_further (map value_of c.args.objects.now) c.args.handle c.args.apps.now c.apps.index c.index-apps-index.result c.apps.found c.judge_app.new.found _ c.apps-test.true
      c.index-apps-index.is c.apps.invariant.found (search rules);
  steps =
      taken_further app_references (length c.args.objects.now) c.args.apps.now c.apps.index c.index-apps-index.result _ _ _ _ c.apps-test.true c.index-apps-index.is c.apps.invariant.steps
      c.judge_app.ensures.steps;
}

pub returns-clause-found : goal.returns-clause-found
returns-clause-found g c = apps_found (map value_of c.args.objects.now) c.args.handle c.args.apps.now c.apps.index c.apps.found _ c.apps-test.false c.apps.invariant.found

pub returns-clause-steps : goal.returns-clause-steps
returns-clause-steps g c = taken_so_far (length c.args.objects.now) _ _ _ _ c.apps.invariant.steps
