use Rattle.std.proofs.Common.{◌≡◌, ◌++◌, drop, length, map}
use Rattle.std.specs.List.{sum_by}
use Rattle.dwg_appitems.specs.AppFindings.{apps_findings}
use Rattle.dwg_appitems.specs.ItemLookups.{app_references}
use Rattle.dwg_appitems.proofs.LookupSteps.{LeaveAtMost}
use Rattle.dwg_object.specs.Objects.{value_of}
use Rattle.dwg_appitems.proofs.auditing.judge_apps.Given as goal

-- what is found so far and what the application data that is left fails give the whole, and so do the steps
abbrev pub invariant-apps : goal.invariant-apps
invariant-apps g l = record {
  found : l.found ++ apps_findings (map value_of l.objects) l.handle l.index (drop l.index l.apps) ≡ l.initial.found ++ apps_findings (map value_of l.objects) l.handle 0 l.apps;
  steps : LeaveAtMost (length l.objects) (sum_by app_references (drop l.index l.apps)) (sum_by app_references l.apps) l.initial.steps l.steps;
}
