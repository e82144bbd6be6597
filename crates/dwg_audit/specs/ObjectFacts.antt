-- What the tables say of one object. A rule of this project.
use Rattle.std.specs.Prelude.{◌≡◌, List, length}
use Rattle.std.specs.List.{filter}
use Rattle.dwg_audit.specs.declared.object_facts.ObjectFacts.{ObjectFacts}
use Rattle.dwg_audit.specs.Findings.{is_chained}
use Rattle.dwg_graph.specs.Counts.{by_holder}
use Rattle.dwg_graph.specs.Graph.{claims, ends_of, owner_step, root_at}
use Rattle.dwg_graph.specs.Owners.{spaces, owner_of}
use Rattle.dwg_graph.specs.Placed.{home_place, owner_place}
use Rattle.dwg_graph.specs.Places.{handles_of}
use Rattle.dwg_object.specs.Objects.{ObjectValue, handle_of}
use Rattle.dwg_chains.specs.Ways.{has_path}

-- that is said of this object
pub record IsStanding (objects : List ObjectValue) (x : ObjectValue) (standing : ObjectFacts) : Type 0 where
  pub home : standing.home ≡ home_place objects (spaces objects) x
  pub owner : standing.owner ≡ owner_place objects (spaces objects) x
  pub all : standing.counts.all ≡ length (claims objects (handle_of x))
  pub own : standing.counts.own ≡ length (filter (by_holder (owner_of (spaces objects) x)) (claims objects (handle_of x)))
  pub chained : standing.chained ≡ is_chained objects (spaces objects) x (ends_of x)
  pub reached : standing.reached ≡ has_path (handles_of objects) (owner_step objects (spaces objects)) (root_at objects (spaces objects)) (handle_of x)
