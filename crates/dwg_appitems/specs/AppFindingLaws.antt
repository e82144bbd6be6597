-- The findings of items are exactly their references that lead nowhere, and stand in order; no other list has just these in that order.
use Rattle.std.specs.Prelude.{◌≡◌, ◌↔◌, List, [], Contains, AllPairs}
use Rattle.dwg_graph.specs.Places.{Ascend, handles_of}
use Rattle.dwg_object.specs.Objects.{ObjectValue}
use Rattle.dwg_appitems.specs.declared.finding.AppFinding.{AppFinding}
use Rattle.dwg_appitems.specs.AppFailures.{IsAppFinding, StandsBefore}
use Rattle.dwg_appitems.specs.AppFindings.{app_findings}

-- what is found of objects are exactly the references of their items that lead nowhere
abbrev pub AppFindingsStand : Type 0
AppFindingsStand = (objects : List ObjectValue) (finding : AppFinding) → Contains (app_findings objects) finding ↔ IsAppFinding objects finding

-- nothing is found exactly where no reference leads nowhere
abbrev pub NothingIsFoundIfNothingFails : Type 0
NothingIsFoundIfNothingFails = (objects : List ObjectValue) → (app_findings objects ≡ []) ↔ ((finding : AppFinding) → IsAppFinding objects finding → ⊥)

-- what is found of objects whose handles ascend stands in order, each strictly before those after it
abbrev pub AppFindingsAreOrdered : Type 0
AppFindingsAreOrdered = (objects : List ObjectValue) → Ascend (handles_of objects) → AllPairs StandsBefore (app_findings objects)

-- a list that has just the references of items of objects that lead nowhere, each strictly before those after it, is what is found of these objects
abbrev pub AppFindingsAreDetermined : Type 0
AppFindingsAreDetermined =
    (objects : List ObjectValue) (list : List AppFinding) → Ascend (handles_of objects)
    → ((finding : AppFinding) → Contains list finding ↔ IsAppFinding objects finding) → AllPairs StandsBefore list → list ≡ app_findings objects
