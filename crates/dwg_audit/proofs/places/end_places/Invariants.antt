use Rattle.std.proofs.Common.{◌≡◌, ◌++◌, drop, map}
use Rattle.std.specs.Option.{option_map}
use Rattle.dwg_graph.specs.Graph.{ends_of}
use Rattle.dwg_graph.specs.Placed.{end_places, end_table}
use Rattle.dwg_graph.specs.Places.{handles_of}
use Rattle.dwg_object.specs.Objects.{ObjectValue, value_of}
use Rattle.dwg_audit.proofs.places.end_places.Given as goal

abbrev pub invariant-objects : goal.invariant-objects
invariant-objects l =
    l.ends.items ++ map (λ (x : ObjectValue). option_map (end_places (handles_of (map value_of l.objects))) (ends_of x)) (map value_of (drop l.place l.objects)) ≡ end_table (map value_of l.objects)
