use Rattle.std.proofs.Common.{◌≡◌, ◌++◌, drop, map}
use Rattle.std.specs.Prelude.{flat_map}
use Rattle.dwg_audit.specs.Findings.{unmet}
use Rattle.dwg_audit.specs.Held.{chosen}
use Rattle.dwg_graph.specs.Slots.{slots}
use Rattle.dwg_object.specs.Objects.{value_of}
use Rattle.dwg_audit.proofs.resolving.push_slots.Given as goal

abbrev pub invariant-slots : goal.invariant-slots
invariant-slots l =
    l.found ++ flat_map (unmet (map value_of l.objects) (value_of l.object)) (chosen l.applications (drop l.i (slots (value_of l.object))))
    ≡ l.initial.found ++ flat_map (unmet (map value_of l.objects) (value_of l.object)) (chosen l.applications (slots (value_of l.object)))
