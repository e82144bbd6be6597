use Rattle.std.proofs.Common.{◌≡◌, ◌++◌, drop, map}
use Rattle.dwg_graph.specs.Placed.{home_place, home_table}
use Rattle.dwg_object.specs.Objects.{value_of}
use Rattle.dwg_audit.proofs.places.homes.Given as goal

abbrev pub invariant-objects : goal.invariant-objects
invariant-objects l = l.places.items ++ map (home_place (map value_of l.objects) l.known) (map value_of (drop l.place l.objects)) ≡ home_table (map value_of l.objects) l.known
