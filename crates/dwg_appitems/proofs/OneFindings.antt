-- There is one list of what is found of items.
use Rattle.std.proofs.Common.{arith}
use Rattle.dwg_appitems.specs.declared.finding.AppFinding.{AppFinding}
use Rattle.dwg_appitems.specs.AppFailures.{StandsBefore}
use Rattle.dwg_appitems.specs.AppFindingLaws.{AppFindingsAreDetermined}
use Rattle.dwg_appitems.specs.AppFindings.{app_findings}
use Rattle.dwg_appitems.proofs.AppFindingLaws.{app_findings_stand}
use Rattle.dwg_appitems.proofs.OrderedFindings.{app_findings_ordered}
use Rattle.dwg_graph.proofs.OrderedLists.{IsOneWay, lower_then, same_if_ordered}

-- no two findings stand each before the other
one_way : IsOneWay StandsBefore
one_way one other = lower_then one.handle other.handle (lower_then one.index other.index (λ less more. omega (arith, less, more)))

-- so there is one list of them
pub app_findings_determined : AppFindingsAreDetermined
app_findings_determined objects list ascend just before =
    same_if_ordered StandsBefore list (app_findings objects) one_way before (app_findings_ordered objects ascend) (λ finding. (
      λ inside. (app_findings_stand objects finding).1 ((just finding).0 inside),
      λ inside. (just finding).1 ((app_findings_stand objects finding).0 inside),
    ))
