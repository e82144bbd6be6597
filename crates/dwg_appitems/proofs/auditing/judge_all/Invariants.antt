use Rattle.std.proofs.Common.{◌≡◌, ◌++◌, drop, length, map}
use Rattle.std.specs.Prelude.{flat_map}
use Rattle.std.specs.List.{sum_by}
use Rattle.dwg_appitems.specs.AppFindings.{app_findings, apps_findings, apps_of}
use Rattle.dwg_appitems.proofs.LookupSteps.{LeaveAtMost, object_references}
use Rattle.dwg_object.specs.Objects.{handle_of, value_of}
use Rattle.dwg_appitems.proofs.auditing.judge_all.Given as goal

-- what is found so far and what the objects that are left fail give the whole, and so do the steps
abbrev pub invariant-objects : goal.invariant-objects
invariant-objects g l = record {
  found :
      l.found ++ flat_map (λ x. apps_findings (map value_of l.objects) (handle_of x) 0 (apps_of x)) (map value_of (drop l.place l.objects)) ≡ app_findings (map value_of l.objects);
  steps : LeaveAtMost (length l.objects) (sum_by object_references (drop l.place l.objects)) (sum_by object_references l.objects) l.initial.steps l.steps;
}
