-- Where a block stands, by where the owners of its members stand.
use Rattle.std.proofs.Common.{◌≡◌, ◌∙◌, ap, ◌<◌, ℕ, List, length, map, get_or, Option, None}
use Rattle.std.specs.Option.{option_map, option_and_then}
use Rattle.std.proofs.lemmas.Option.{slice_get-map, get_or_from_slice_get}
use Rattle.dwg_graph.proofs.Counting.{value_there}
use Rattle.dwg_graph.specs.declared.owner.SpaceHandles.{SpaceHandles}
use Rattle.dwg_graph.specs.Placed.{owner_place, owner_table, home_at, home_place}
use Rattle.dwg_object.specs.declared.object.Object as declared
use Rattle.dwg_object.specs.Objects.{value_of}

-- the home of an object, by the table of owners
pub home_by_owner : (objects : List declared.Object) (known : Option SpaceHandles) (owners : List (Option ℕ)) (i : ℕ) (x : declared.Object)
    → owners ≡ owner_table (map value_of objects) known → i < length objects → x ≡ get_or objects i x
    → option_and_then (home_at (map value_of objects) known (value_of x)) (get_or owners i None) ≡ home_place (map value_of objects) known (value_of x)
home_by_owner objects known owners i x is within here =
    let values = map value_of objects in
    let there = slice_get-map (owner_place values known) values i ∙ ap (option_map (owner_place values known)) (value_there objects i x within here) in
    ap (option_and_then (home_at values known (value_of x)))
    (ap (λ (table : List (Option ℕ)). get_or table i None) is ∙ get_or_from_slice_get (owner_table values known) i (owner_place values known (value_of x)) None there)
