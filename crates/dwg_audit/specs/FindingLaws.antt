-- The findings of a drawing whose handles ascend are exactly its failures, and there are none exactly where it is sound.
use Rattle.std.proofs.Common.{◌≡◌}
use Rattle.std.specs.Prelude.{◌↔◌, List, [], Contains}
use Rattle.dwg_audit.specs.declared.finding.Finding.{Finding}
use Rattle.dwg_audit.specs.Failures.{IsFinding}
use Rattle.dwg_audit.specs.Findings.{findings}
use Rattle.dwg_graph.specs.Places.{Ascend, handles_of}
use Rattle.dwg_graph.specs.Sound.{IsSound}
use Rattle.dwg_object.specs.Objects.{ObjectValue}

-- the findings of a drawing are exactly its failures
abbrev pub FindingsStand : Type 0
FindingsStand = (objects : List ObjectValue) (finding : Finding) → Ascend (handles_of objects) → Contains (findings objects) finding ↔ IsFinding objects finding

-- nothing is found exactly where a drawing is sound
abbrev pub NothingIsFoundIfSound : Type 0
NothingIsFoundIfSound = (objects : List ObjectValue) → Ascend (handles_of objects) → (findings objects ≡ []) ↔ IsSound objects
