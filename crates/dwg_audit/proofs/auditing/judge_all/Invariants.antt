use Rattle.std.proofs.Common.{◌≡◌, ◌++◌, drop, map}
use Rattle.std.specs.Prelude.{flat_map}
use Rattle.dwg_audit.specs.Findings.{findings, findings_of}
use Rattle.dwg_graph.specs.Owners.{spaces}
use Rattle.dwg_object.specs.Objects.{value_of}
use Rattle.dwg_audit.proofs.auditing.judge_all.Given as goal

abbrev pub invariant-objects : goal.invariant-objects
invariant-objects l =
    l.found ++ flat_map (findings_of (map value_of l.objects) (spaces (map value_of l.objects))) (drop l.place (map value_of l.objects)) ≡ findings (map value_of l.objects)
