use Rattle.std.proofs.Common.{◌≡◌, ◌++◌, drop, map}
use Rattle.dwg_graph.specs.Graph.{is_root}
use Rattle.dwg_graph.specs.Owners.{spaces}
use Rattle.dwg_graph.specs.Placed.{root_table}
use Rattle.dwg_object.specs.Objects.{value_of}
use Rattle.dwg_cert.proofs.placing.Indexed.roots.Given as goal

-- what is marked so far and what is left give the table
abbrev pub invariant-objects : goal.invariant-objects
invariant-objects l = l.marks.items ++ map (is_root (spaces l.self)) (map value_of (drop l.object-index l.object-items)) ≡ root_table l.self (spaces l.self)
