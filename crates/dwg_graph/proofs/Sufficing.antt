-- Claims by their counts, and homes by the owners' places.
use Rattle.std.proofs.Common.{◌≡◌, refl, ap, ◌∙◌, ℕ, Bool, true, false, List, [], ◌∷◌, length, Option, Some, None, arith}
use Rattle.std.specs.Prelude.{◌==◌, ◌&&◌, is_some, if◌then◌else◌}
use Rattle.std.specs.List.{filter, slice_get}
use Rattle.std.specs.Option.{option_and_then, option_map_or}
use Rattle.std.proofs.lemmas.Bool.Decides.{nat_tests}
use Rattle.dwg_graph.specs.declared.owner.SpaceHandles.{SpaceHandles}
use Rattle.dwg_graph.specs.Counts.{by_counts, by_holder}
use Rattle.dwg_graph.specs.Graph.{Claim, claims, object_at, is_member, is_typed, EndHandles, known_ends}
use Rattle.dwg_graph.specs.Owners.{owner_of}
use Rattle.dwg_graph.specs.Placed.{home_place, home_at, owner_place}
use Rattle.dwg_graph.specs.Tests.{is_sole_claim, is_unclaimed, is_claimed}
use Rattle.dwg_graph.proofs.PlacedObjects.{object_placed}
use Rattle.dwg_object.specs.Objects.{ObjectValue, handle_of}
use Rattle.dwg_tables.specs.declared.block_header.Ends as declared

-- the only claim is by a holder where there is one, and one by the holder
pub sole_by_counts : (holder : ℕ) (claims : List Claim) → ((length claims == 1) && (length (filter (by_holder holder) claims) == 1)) ≡ is_sole_claim holder claims
sole_by_counts holder [] = refl
sole_by_counts holder (claim ∷ []) = go (by_holder holder claim) refl
  where
    go : (test : Bool) → by_holder holder claim ≡ test → ((length (claim ∷ []) == 1) && (length (filter (by_holder holder) (claim ∷ [])) == 1)) ≡ by_holder holder claim
    go true is = rw is refl
    go false is = rw is refl
sole_by_counts holder (claim ∷ other ∷ more) =
    let many : (length (claim ∷ other ∷ more) == 1) ≡ false = grind (arith, nat_tests) in
    ap (λ t. t && (length (filter (by_holder holder) (claim ∷ other ∷ more)) == 1)) many

-- there is no claim where none is counted
pub none_by_count : (claims : List Claim) → (length claims == 0) ≡ is_unclaimed claims
none_by_count [] = refl
none_by_count (claim ∷ more) = let some : (length (claim ∷ more) == 0) ≡ false = grind (arith, nat_tests) in some

-- an object has a home exactly where its owner is a block of which it is a member
pub member_by_home : (objects : List ObjectValue) (known : Option SpaceHandles) (x : ObjectValue)
    → is_some (home_place objects known x) ≡ option_map_or (λ owner. is_member known owner x) (object_at objects (owner_of known x)) false
member_by_home objects known x =
    go (owner_place objects known x) ∙ ap (λ o. option_map_or (λ owner. is_member known owner x) o false) (object_placed objects (owner_of known x))
  where
    tested : (test : Bool) (place : ℕ) → is_some (if test then Some place else None) ≡ test
    tested true place = refl
    tested false place = refl

    stands : (place : ℕ) (found : Option ObjectValue) → is_some (option_and_then (λ owner. if is_member known owner x then Some place else None) found) ≡ option_map_or (λ owner. is_member known owner x) found false
    stands place None = refl
    stands place (Some owner) = tested (is_member known owner x) place

    go : (place : Option ℕ) → is_some (option_and_then (home_at objects known x) place) ≡ option_map_or (λ owner. is_member known owner x) (option_and_then (slice_get objects) place) false
    go None = refl
    go (Some place) = stands place (slice_get objects place)

-- the claims on an object suffice by their counts exactly where they are those that are asked for
pub claimed_by_counts : (objects : List ObjectValue) (known : Option SpaceHandles) (x : ObjectValue) (owner : Option ℕ) (all own : ℕ)
    → owner ≡ owner_place objects known x → all ≡ length (claims objects (handle_of x)) → own ≡ length (filter (by_holder (owner_of known x)) (claims objects (handle_of x)))
    → option_map_or (λ owner. by_counts (is_typed owner) all own) (option_and_then (slice_get objects) owner) false ≡ is_claimed objects known x
unfolding is_claimed
claimed_by_counts objects known x owner all own place count own_count =
    ap (λ o. option_map_or (λ (y : ObjectValue). by_counts (is_typed y) all own) (option_and_then (slice_get objects) o) false) place
    ∙ ap (λ o. option_map_or (λ (y : ObjectValue). by_counts (is_typed y) all own) o false) (object_placed objects (owner_of known x))
    ∙ go (object_at objects (owner_of known x))
  where
    reported : (typed : Bool) → by_counts typed all own ≡ (if typed then is_sole_claim (owner_of known x) (claims objects (handle_of x)) else is_unclaimed (claims objects (handle_of x)))
    reported true = ap (λ n. (n == 1) && (own == 1)) count ∙ ap (λ n. (length (claims objects (handle_of x)) == 1) && (n == 1)) own_count ∙ sole_by_counts (owner_of known x) (claims objects (handle_of x))
    reported false = ap (λ n. n == 0) count ∙ none_by_count (claims objects (handle_of x))

    go : (found : Option ObjectValue) → option_map_or (λ (y : ObjectValue). by_counts (is_typed y) all own) found false
        ≡ option_map_or (λ owner. if is_typed owner then is_sole_claim (owner_of known x) (claims objects (handle_of x)) else is_unclaimed (claims objects (handle_of x))) found false
    go None = refl
    go (Some y) = reported (is_typed y)

-- the last end is null where both ends are
pub last_of_ends : (ends : declared.Ends) → option_map_or (λ (e : EndHandles). e.last) (known_ends ends) 0 ≡ ends.last.target
last_of_ends ends = go (ends.first.target == 0) (ends.last.target == 0) refl
  where
    go : (first last : Bool) → (ends.last.target == 0) ≡ last → option_map_or (λ (e : EndHandles). e.last) (if first && last then None else Some (record { first = ends.first.target; last = ends.last.target })) 0 ≡ ends.last.target
    go true true is = grind (arith, nat_tests, is)
    go true false is = refl
    go false last is = refl
