use Rattle.std.proofs.Common.{rules, length, map}
use Rattle.std.specs.List.{sum_by}
use Rattle.dwg_appitems.specs.ItemLookups.{item_references}
use Rattle.dwg_appitems.proofs.FindingOrder.{item_further, items_found}
use Rattle.dwg_appitems.proofs.LookupSteps.{all_left, taken_further, taken_so_far}
use Rattle.dwg_object.specs.Objects.{value_of}
use Rattle.dwg_appitems.proofs.auditing.judge_items.Goals as goal

pub items-init : goal.items-init
items-init g c = record { found = (search); steps = all_left _ (sum_by item_references c.args.items.now) _ }

pub items-preserved : goal.items-preserved
items-preserved g c = record {
  found =
      item_further (map value_of c.args.objects.now) c.args.handle c.args.index c.args.items.now c.items.place c.index-items-place.result c.items.found c.judge_item.new.found _ c.items-test.true
      c.index-items-place.is c.items.invariant.found (search rules);
  steps =
      taken_further item_references (length c.args.objects.now) c.args.items.now c.items.place c.index-items-place.result _ _ _ _ c.items-test.true c.index-items-place.is c.items.invariant.steps
      c.judge_item.ensures.steps;
}

pub returns-clause-found : goal.returns-clause-found
returns-clause-found g c = items_found (map value_of c.args.objects.now) c.args.handle c.args.index c.args.items.now c.items.place c.items.found _ c.items-test.false c.items.invariant.found

pub returns-clause-steps : goal.returns-clause-steps
returns-clause-steps g c = taken_so_far (length c.args.objects.now) _ _ _ _ c.items.invariant.steps
