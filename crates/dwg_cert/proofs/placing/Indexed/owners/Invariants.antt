use Rattle.std.proofs.Common.{◌≡◌, ◌++◌, drop, map}
use Rattle.dwg_graph.specs.Owners.{spaces}
use Rattle.dwg_graph.specs.Placed.{owner_place, owner_table}
use Rattle.dwg_object.specs.Objects.{value_of}
use Rattle.dwg_cert.proofs.placing.Indexed.owners.Given as goal

-- what is looked up so far and what is left give the table
abbrev pub invariant-objects : goal.invariant-objects
invariant-objects l = l.places.items ++ map (owner_place l.self (spaces l.self)) (map value_of (drop l.object-index l.object-items)) ≡ owner_table l.self (spaces l.self)
