use Rattle.std.proofs.Common.{◌≡◌, ◌++◌, drop, map}
use Rattle.dwg_graph.specs.Placed.{next_place, next_table}
use Rattle.dwg_object.specs.Objects.{value_of}
use Rattle.dwg_cert.proofs.placing.Indexed.next.Given as goal

-- what is looked up so far and what is left give the table
abbrev pub invariant-objects : goal.invariant-objects
invariant-objects l = l.places.items ++ map (next_place l.self) (map value_of (drop l.object-index l.object-items)) ≡ next_table l.self
