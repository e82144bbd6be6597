-- What is known of all objects before the first of them is judged. A rule of this project.
use Rattle.std.specs.Prelude.{◌≡◌, ◌<◌, ◌↔◌, ℕ, List, length, IsTrue}
use Rattle.dwg_audit.specs.declared.tables.Tables.{Tables}
use Rattle.dwg_audit.specs.Lookups.{AreLookups}
use Rattle.dwg_graph.specs.Claimed.{AreBothCounted}
use Rattle.dwg_graph.specs.Owners.{spaces}
use Rattle.dwg_graph.specs.Placed.{owner_table, next_table, root_table, home_table, end_table}
use Rattle.dwg_object.specs.Objects.{ObjectValue}
use Rattle.dwg_chains.specs.Tables.{leads, marked, ends_at, RankIs, HasChainAt}

-- the tables say of the objects what they are for
pub record AreTables (objects : List ObjectValue) (tables : Tables) : Type 0 where
  pub known : tables.known ≡ spaces objects
  pub lookups : AreLookups objects (spaces objects) tables.lookups
  pub homes : tables.homes.items ≡ home_table objects (spaces objects)
  pub rank_count : length tables.ranks.items ≡ length objects
  pub ranks : (place : ℕ) → place < length objects → RankIs (owner_table objects (spaces objects)) (root_table objects (spaces objects)) place (leads tables.ranks.items place)
  pub chain_count : length tables.chains.items ≡ length objects
  pub chains : (home : ℕ) → home < length objects
      → IsTrue (marked tables.chains.items home) ↔ HasChainAt (home_table objects (spaces objects)) (next_table objects) home (ends_at (end_table objects) home)
  pub claims : AreBothCounted objects (spaces objects) tables.claims
