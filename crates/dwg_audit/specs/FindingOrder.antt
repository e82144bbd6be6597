-- The findings of a drawing stand in order, each strictly before those after it, and no other list has just these in that order.
use Rattle.std.specs.Prelude.{◌≡◌, ◌↔◌, List, Contains, AllPairs}
use Rattle.std.specs.List.{AllByRecursion}
use Rattle.dwg_audit.specs.declared.finding.Finding.{Finding}
use Rattle.dwg_audit.specs.Failures.{IsFinding, StandsBefore}
use Rattle.dwg_audit.specs.Findings.{findings}
use Rattle.dwg_graph.specs.Places.{Ascend, handles_of}
use Rattle.dwg_object.specs.Objects.{ObjectValue}
use Rattle.dwg_object.specs.Written.{IsWhole}

-- the findings of whole objects whose handles ascend stand in order, each strictly before those after it
abbrev pub FindingsAreOrdered : Type 0
FindingsAreOrdered = (objects : List ObjectValue) → Ascend (handles_of objects) → AllByRecursion IsWhole objects → AllPairs StandsBefore (findings objects)

-- a list that has just the failures of whole objects whose handles ascend, each strictly before those after it, is the findings of these
abbrev pub FindingsAreDetermined : Type 0
FindingsAreDetermined =
    (objects : List ObjectValue) (list : List Finding) → Ascend (handles_of objects) → AllByRecursion IsWhole objects
    → ((finding : Finding) → Contains list finding ↔ IsFinding objects finding) → AllPairs StandsBefore list → list ≡ findings objects
