-- The certificate of a sound drawing's own objects can be written and is read again.
use Rattle.std.proofs.Common.{◌≡◌, sym, ap, subst, ℕ, zero, suc, ◌-◌, ◌^◌, ◌<◌, ◌≤◌, List, [], ◌∷◌, length, get_or, Option, Some, None, true, false, arith}
use Rattle.dwg_base.specs.declared.version.Version.{Version}
use Rattle.std.proofs.lemmas.List.{length-map, get_or-map}
use Rattle.std.specs.Prelude.{◌==◌, Bool, map, IfSome, if◌then◌else◌}
use Rattle.std.specs.List.{AllByRecursion}
use Rattle.std.specs.Option.{option_and_then, option_map}
use Rattle.dwg_cert.specs.Accepts.{handles_in}
use Rattle.dwg_cert.specs.Certificates.{IsSmallEntry, HandlesAscend, IsCertificate, HaveHandles}
use Rattle.dwg_cert.specs.Certified.{rank_of, between, place_between, place_in_block, place_of, entry_of, certificate_of}
use Rattle.dwg_cert.specs.declared.entry.Entry.{Entry}
use Rattle.dwg_classes.specs.declared.class.Class.{Class}
use Rattle.dwg_graph.specs.Graph.{object_at, is_member, owner_step, next_step, root_at, EndHandles, ends_of}
use Rattle.dwg_graph.specs.Owners.{spaces, owner_of}
use Rattle.dwg_graph.specs.Placed.{place_in}
use Rattle.dwg_graph.specs.Places.{Ascend, handles_of}
use Rattle.dwg_object.specs.Objects.{ObjectValue, handle_of}
use Rattle.dwg_object.specs.Written.{IsValidObject}
use Rattle.dwg_object.proofs.FormLaws.{valid_handle}
use Rattle.dwg_chains.specs.Ways.{way}

-- a way of at most so many steps has at most one thing more
way_is_short : {A : Type 0} (step : A → Option A) (goal : A → Bool) (count : ℕ) (x : A) → IfSome (way step goal count x) (λ path. length path ≤ suc count)
unfolding way
way_is_short {A} step goal zero x = of_goal (goal x)
  where
    of_goal : (here : Bool) → IfSome (if here then Some (x ∷ []) else None) (λ path. length path ≤ 1)
    of_goal true = omega arith
    of_goal false = tt
way_is_short {A} step goal (suc count) x = of_goal (way_is_short step goal count) (goal x) (step x)
  where
    of_rest : (found : Option (List A)) → IfSome found (λ path. length path ≤ suc count) → IfSome (option_map (λ rest. x ∷ rest) found) (λ path. length path ≤ suc (suc count))
    of_rest None short = tt
    of_rest (Some path) short = omega (arith, short)

    of_goal : ((y : A) → IfSome (way step goal count y) (λ path. length path ≤ suc count)) → (here : Bool) (next : Option A)
        → IfSome (if here then Some (x ∷ []) else option_map (λ rest. x ∷ rest) (option_and_then (way step goal count) next)) (λ path. length path ≤ suc (suc count))
    of_goal further true next = omega arith
    of_goal further false None = tt
    of_goal further false (Some y) = of_rest (way step goal count y) (further y)

-- the place of a handle is below the count of handles
place_is_within : (handles : List ℕ) (handle : ℕ) → IfSome (place_in handles handle) (λ place. place < length handles)
unfolding place_in
place_is_within [] handle = tt
place_is_within (first ∷ more) handle = of_test (first == handle) (place_in more handle) (place_is_within more handle)
  where
    of_test : (test : Bool) (found : Option ℕ) → IfSome found (λ place. place < length more) → IfSome (if test then Some 0 else option_map suc found) (λ place. place < length (first ∷ more))
    of_test true found within = omega arith
    of_test false None within = tt
    of_test false (Some place) within = omega (arith, within)

-- ranks of few objects are small
rank_is_small : (objects : List ObjectValue) (x : ObjectValue) → length objects < 2 ^ 58 → IfSome (rank_of objects x) (λ rank. rank < 2 ^ 62)
unfolding rank_of
rank_is_small objects x few =
    of_way (way (owner_step objects (spaces objects)) (root_at objects (spaces objects)) (length objects) (handle_of x))
    (way_is_short (owner_step objects (spaces objects)) (root_at objects (spaces objects)) (length objects) (handle_of x))
  where
    of_way : (found : Option (List ℕ)) → IfSome found (λ path. length path ≤ suc (length objects)) → IfSome (option_map (λ path. length path - 1) found) (λ rank. rank < 2 ^ 62)
    of_way None short = tt
    of_way (Some path) short = omega (arith, short, few)

-- so are places in a short chain
place_in_short : (count handle : ℕ) (found : Option (List ℕ)) → count < 2 ^ 58 → IfSome found (λ chain. length chain ≤ suc count)
    → IfSome (option_and_then (λ chain. place_in chain handle) found) (λ place. place < 2 ^ 62)
place_in_short count handle None few short = tt
place_in_short count handle (Some chain) few short = of_place (place_in chain handle) (place_is_within chain handle)
  where
    of_place : (found : Option ℕ) → IfSome found (λ place. place < length chain) → IfSome found (λ place. place < 2 ^ 62)
    of_place None within = tt
    of_place (Some place) within = omega (arith, within, short, few)

-- and those between the ends of a block
between_is_small : (objects : List ObjectValue) (handle : ℕ) (ends : EndHandles) → length objects < 2 ^ 58 → IfSome (place_between objects handle ends) (λ place. place < 2 ^ 62)
unfolding between
between_is_small objects handle ends few =
    place_in_short (length objects) handle (way (next_step objects) (λ one. one == ends.last) (length objects) ends.first) few
    (way_is_short (next_step objects) (λ one. one == ends.last) (length objects) ends.first)

place_is_small : (objects : List ObjectValue) (x : ObjectValue) → length objects < 2 ^ 58 → IfSome (place_of objects x) (λ place. place < 2 ^ 62)
unfolding place_of
place_is_small objects x few = of_owner (object_at objects (owner_of (spaces objects) x))
  where
    of_ends : (ends : Option EndHandles) → IfSome (option_and_then (place_between objects (handle_of x)) ends) (λ place. place < 2 ^ 62)
    of_ends None = tt
    of_ends (Some ends) = between_is_small objects (handle_of x) ends few

    of_member : (block : ObjectValue) (member : Bool)
        → IfSome (if member then option_and_then (place_between objects (handle_of x)) (ends_of block) else None) (λ place. place < 2 ^ 62)
    of_member block true = of_ends (ends_of block)
    of_member block false = tt

    of_owner : (owner : Option ObjectValue) → IfSome (option_and_then (place_in_block objects x) owner) (λ place. place < 2 ^ 62)
    of_owner None = tt
    of_owner (Some block) = of_member block (is_member (spaces objects) block x)

-- so the numbers of entries are
entries_are_small : (objects those : List ObjectValue) → length objects < 2 ^ 58 → AllByRecursion IsSmallEntry (map (entry_of objects) those)
entries_are_small objects [] few = tt
entries_are_small objects (x ∷ more) few = (record { rank = rank_is_small objects x few; chain = place_is_small objects x few }, entries_are_small objects more few)

-- entries ascend as their handles do
entries_ascend : (entries : List Entry) → Ascend (handles_in entries) → HandlesAscend entries
entries_ascend entries ascend i j d before within =
    let long : length (handles_in entries) ≡ length entries = length-map entries (λ (entry : Entry). entry.handle) in
    let one : get_or (handles_in entries) i d.handle ≡ (get_or entries i d).handle = get_or-map (λ (entry : Entry). entry.handle) entries i d d.handle (omega (arith, before, within)) in
    let other : get_or (handles_in entries) j d.handle ≡ (get_or entries j d).handle = get_or-map (λ (entry : Entry). entry.handle) entries j d d.handle within in
    omega (arith, ascend i j d.handle before (omega (arith, long, within)), one, other)

-- the certificate of few objects whose handles ascend, where it has their handles, is one
pub own_is_certificate : (objects : List ObjectValue) → Ascend (handles_of objects) → length objects < 2 ^ 58 → handles_in (certificate_of objects) ≡ handles_of objects → IsCertificate (certificate_of objects)
unfolding certificate_of
own_is_certificate objects ascend few handles = record {
  ascending = entries_ascend (map (entry_of objects) objects) (subst Ascend (sym handles) ascend);
  small = entries_are_small objects objects few;
}

-- and that of objects that a drawing can have has handles
handles_in_range : (version : Version) (classes : List Class) (objects those : List ObjectValue) → AllByRecursion (IsValidObject version classes) those → HaveHandles (map (entry_of objects) those)
handles_in_range version classes objects [] valid = tt
handles_in_range version classes objects (x ∷ more) valid = ((valid_handle version classes x valid.0).1, handles_in_range version classes objects more valid.1)

pub own_has_handles : (version : Version) (classes : List Class) (objects : List ObjectValue) → AllByRecursion (IsValidObject version classes) objects → HaveHandles (certificate_of objects)
unfolding certificate_of
own_has_handles version classes objects valid = handles_in_range version classes objects objects valid

-- it has an entry for each object
pub own_is_few : (objects : List ObjectValue) (cert : List Entry) (most : ℕ) → length objects ≤ most → cert ≡ certificate_of objects → length cert ≤ most
unfolding certificate_of
own_is_few objects cert most few is = omega (arith, few, ap length is, length-map objects (entry_of objects))
