use Rattle.std.proofs.Common.{◌≡◌, ◌++◌, drop, length, map}
use Rattle.std.specs.List.{sum_by}
use Rattle.dwg_appitems.specs.AppFindings.{items_findings}
use Rattle.dwg_appitems.specs.ItemLookups.{item_references}
use Rattle.dwg_appitems.proofs.LookupSteps.{LeaveAtMost}
use Rattle.dwg_object.specs.Objects.{value_of}
use Rattle.dwg_appitems.proofs.auditing.judge_items.Given as goal

-- what is found so far and what the items that are left fail give the whole, and so do the steps
abbrev pub invariant-items : goal.invariant-items
invariant-items g l = record {
  found :
      l.found ++ items_findings (map value_of l.objects) l.handle l.index l.place (drop l.place l.items) ≡ l.initial.found ++ items_findings (map value_of l.objects) l.handle l.index 0 l.items;
  steps : LeaveAtMost (length l.objects) (sum_by item_references (drop l.place l.items)) (sum_by item_references l.items) l.initial.steps l.steps;
}
