-- There is one list of the findings of a drawing.
use Rattle.std.proofs.Common.{arith}
use Rattle.dwg_audit.specs.declared.finding.Finding.{Finding}
use Rattle.dwg_audit.specs.Failures.{rule_number, number_of_field, StandsBefore}
use Rattle.dwg_audit.specs.FindingOrder.{FindingsAreDetermined, FindingsAreOrdered}
use Rattle.dwg_audit.specs.Findings.{findings}
use Rattle.dwg_audit.proofs.FindingLaws.{findings_stand}
use Rattle.dwg_graph.proofs.OrderedLists.{IsOneWay, lower_then, same_if_ordered}

-- no two findings stand each before the other
one_way : IsOneWay StandsBefore
one_way one other =
    lower_then one.handle other.handle
    (lower_then (rule_number one.rule) (rule_number other.rule)
    (lower_then (number_of_field one.field) (number_of_field other.field) (λ less more. omega (arith, less, more))))

-- so there is one list of them
pub findings_determined : FindingsAreOrdered → FindingsAreDetermined
findings_determined ordered objects list ascend whole just before =
    same_if_ordered StandsBefore list (findings objects) one_way before (ordered objects ascend whole) (λ finding. (
      λ inside. (findings_stand objects finding ascend).1 ((just finding).0 inside),
      λ inside. (just finding).1 ((findings_stand objects finding ascend).0 inside),
    ))
