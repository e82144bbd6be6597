-- No object has a handle that isn't below 2^63, since the last has none.
use Rattle.std.proofs.Common.{◌≡◌, sym, ap, ◌∙◌, subst, inl, inr, ℕ, ◌-◌, ◌^◌, ◌<◌, List, length, map, get_or, Option, None, arith}
use Rattle.std.specs.Prelude.{◌⊎◌}
use Rattle.std.specs.List.{slice_index_or}
use Rattle.std.specs.Option.{SomeIff}
use Rattle.std.proofs.lemmas.Bool.{cases_order}
use Rattle.std.proofs.lemmas.List.{length-map, get_or-map, get_or_default}
use Rattle.dwg_graph.specs.Placed.{place_in}
use Rattle.dwg_graph.specs.Places.{Ascend, handles_of}
use Rattle.dwg_graph.proofs.Placing.{place_known}
use Rattle.dwg_object.specs.declared.object.Object as declared
use Rattle.dwg_object.specs.Objects.{handle_of, value_of}

-- each object has a handle
pub as_many : (objects : List declared.Object) → length (handles_of (map value_of objects)) ≡ length objects
as_many objects = length-map (map value_of objects) handle_of ∙ length-map objects value_of

-- the handles are no greater than that of the last object
pub bounded_by_last : (objects : List declared.Object) (last : declared.Object) → Ascend (handles_of (map value_of objects)) → last ≡ get_or objects (length objects - 1) last
    → handle_of (value_of last) < 2 ^ 63 → (i : ℕ) → i < length objects → slice_index_or (handles_of (map value_of objects)) i 0 < 2 ^ 63
bounded_by_last objects last ascend is small i within = go (cases_order i end)
  where
    handles : List ℕ
    handles = handles_of (map value_of objects)

    end : ℕ
    end = length objects - 1

    top : slice_index_or handles end 0 ≡ handle_of (value_of last)
    top =
        get_or-map handle_of (map value_of objects) end (value_of last) 0 (omega (arith, length-map objects value_of, within))
        ∙ ap handle_of (get_or-map value_of objects end last (value_of last) (omega (arith, within)))
        ∙ ap (λ (object : declared.Object). handle_of (value_of object)) (sym is)

    go : (i ≡ end) ⊎ ((i < end) ⊎ (end < i)) → slice_index_or handles i 0 < 2 ^ 63
    go (inl same) = omega (arith, top, small, ap (λ place. slice_index_or handles place 0) same)
    go (inr (inl before)) = omega (arith, top, small, ascend i end 0 before (omega (arith, as_many objects, within)))
    go (inr (inr after)) = absurd (omega (arith, after, within))

-- so a number that is no handle is at no place
pub too_great : (objects : List declared.Object) (named : ℕ) (handle : Option ℕ) → Ascend (handles_of (map value_of objects))
    → ((i : ℕ) → i < length objects → slice_index_or (handles_of (map value_of objects)) i 0 < 2 ^ 63) → handle ≡ None → SomeIff handle (named < 2 ^ 63) named
    → None ≡ place_in (handles_of (map value_of objects)) named
too_great objects named handle ascend bound none is =
    let great : named < 2 ^ 63 → ⊥ = subst (λ (found : Option ℕ). SomeIff found (named < 2 ^ 63) named) none is in
    place_known (handles_of (map value_of objects)) named None ascend (λ stands.
    great (omega (
      arith,
      bound stands.0 (omega (arith, stands.1, as_many objects)),
      get_or_default (handles_of (map value_of objects)) stands.0 named 0 stands.1,
      stands.2,
    )))
