-- What the tables say of the object at a place.
use Rattle.std.proofs.Common.{◌≡◌, ap, ◌∙◌, ℕ, Bool, List, length, map, Option, Some, ◌<◌}
use Rattle.std.specs.Prelude.{◌↔◌, is_some}
use Rattle.std.specs.List.{slice_get, slice_index_or}
use Rattle.std.specs.Option.{option_map}
use Rattle.std.proofs.lemmas.Bool.Decides.{same_from_decides}
use Rattle.std.proofs.lemmas.Option.{get_or_from_slice_get, slice_get-map, slice_get_within}
use Rattle.dwg_audit.specs.declared.tables.Tables.{Tables}
use Rattle.dwg_audit.specs.Findings.{is_chained}
use Rattle.dwg_audit.proofs.FindingTests.{chained_decided}
use Rattle.dwg_audit.specs.ObjectFacts.{IsStanding}
use Rattle.dwg_audit.specs.Tabled.{AreTables}
use Rattle.dwg_graph.specs.Claimed.{claims_held}
use Rattle.dwg_graph.specs.Graph.{claims, ends_of}
use Rattle.dwg_graph.specs.Owners.{spaces, owner_of}
use Rattle.dwg_graph.specs.Placed.{home_place, owner_place}
use Rattle.dwg_graph.specs.Places.{Ascend, handles_of}
use Rattle.dwg_graph.proofs.PlacedChains.{chain_placed}
use Rattle.dwg_graph.proofs.PlacedPaths.{in_table, path_placed}
use Rattle.dwg_object.specs.Objects.{ObjectValue, handle_of}
use Rattle.dwg_chains.specs.Tables.{leads, marked}

-- what a table of numbers says of an object
number_of_object : (objects : List ObjectValue) (f : ObjectValue → Option ℕ) (table : List (Option ℕ)) (place : ℕ) (x : ObjectValue) → table ≡ map f objects → slice_get objects place ≡ Some x → leads table place ≡ f x
number_of_object objects f table place x same at = ap (λ t. leads t place) same ∙ in_table objects f place x at

-- what a table of counts says of an object
count_of_object : (objects : List ObjectValue) (f : ObjectValue → ℕ) (table : List ℕ) (place : ℕ) (x : ObjectValue) → table ≡ map f objects → slice_get objects place ≡ Some x → slice_index_or table place 0 ≡ f x
count_of_object objects f table place x same at =
    ap (λ t. slice_index_or t place 0) same ∙ get_or_from_slice_get (map f objects) place (f x) 0 (slice_get-map f objects place ∙ ap (option_map f) at)

-- what the tables say of an object is so
pub stands : (objects : List ObjectValue) (tables : Tables) (place : ℕ) (home owner rank : Option ℕ) (all own : ℕ) (chained reached : Bool) → Ascend (handles_of objects) → AreTables objects tables
    → home ≡ leads tables.homes.items place → owner ≡ leads tables.lookups.owners.items place → rank ≡ leads tables.ranks.items place → all ≡ slice_index_or tables.claims.all.items place 0
    → own ≡ slice_index_or tables.claims.own.items place 0 → chained ≡ marked tables.chains.items place → reached ≡ is_some rank
    → (x : ObjectValue) → slice_get objects place ≡ Some x
    → IsStanding objects x (record { home = home; owner = owner; counts = record { all = all; own = own }; chained = chained; reached = reached })
stands objects tables place home owner rank all own chained reached ascend are is_home is_owner is_rank is_all is_own is_chained_there is_reached x at =
    let within : place < length objects = slice_get_within objects place x at in
    record {
      home = is_home ∙ number_of_object objects (home_place objects (spaces objects)) tables.homes.items place x are.homes at;
      owner = is_owner ∙ number_of_object objects (owner_place objects (spaces objects)) tables.lookups.owners.items place x are.lookups.owners at;
      all = is_all ∙ count_of_object objects (λ (y : ObjectValue). length (claims objects (handle_of y))) tables.claims.all.items place x are.claims.all at;
      own = is_own ∙ count_of_object objects (λ (y : ObjectValue). length (claims_held (owner_of (spaces objects) y) (claims objects (handle_of y)))) tables.claims.own.items place x are.claims.own at;
      chained = is_chained_there ∙ same_from_decides (marked tables.chains.items place) (is_chained objects (spaces objects) x (ends_of x))
          (both_ways (are.chains place within) (chain_placed objects place x ascend at)) (chained_decided objects x ascend);
      reached = is_reached ∙ ap (λ (r : Option ℕ). is_some r) is_rank
          ∙ path_placed objects (spaces objects) place x (leads tables.ranks.items place) ascend at (are.ranks place within);
    }
  where
    both_ways : {P Q R : Type 0} → P ↔ Q → Q ↔ R → P ↔ R
    both_ways {P} {Q} {R} one other = (λ p. other.0 (one.0 p), λ r. one.1 (other.1 r))
