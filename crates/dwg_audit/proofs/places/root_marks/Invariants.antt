use Rattle.std.proofs.Common.{◌≡◌, ◌++◌, drop, map}
use Rattle.dwg_graph.specs.Graph.{is_root}
use Rattle.dwg_graph.specs.Placed.{root_table}
use Rattle.dwg_object.specs.Objects.{value_of}
use Rattle.dwg_audit.proofs.places.root_marks.Given as goal

abbrev pub invariant-objects : goal.invariant-objects
invariant-objects l = l.marks.items ++ map (is_root l.known) (map value_of (drop l.object-index l.objects)) ≡ root_table (map value_of l.objects) l.known
