-- The slots of applications, and all others. A rule of this project.
use Rattle.std.specs.Prelude.{Bool, true, false, List, not}
use Rattle.std.specs.List.{filter}
use Rattle.dwg_audit.specs.Findings.{is_application}
use Rattle.dwg_graph.specs.declared.slot.Slot.{Slot}

-- the slots of applications, or all others
abbrev pub chosen : Bool → List Slot → List Slot
chosen true all = filter is_application all
chosen false all = filter (λ slot. not (is_application slot)) all
