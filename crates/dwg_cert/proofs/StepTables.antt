-- The ranks of places, over tables of where objects lead, are how many steps lead from the objects.
use Rattle.std.proofs.Common.{◌≡◌, refl, sym, ap, ◌∙◌, subst, ◌<◌, ℕ, zero, suc, Bool, false, List, [], ◌∷◌, length, map, get_or, Option, Some, None, arith}
use Rattle.std.proofs.lemmas.List.{length-map}
use Rattle.std.proofs.lemmas.Option.{get_or_from_slice_get, slice_get-map, slice_get_within}
use Rattle.std.specs.Prelude.{◌↔◌, if◌then◌else◌}
use Rattle.std.specs.List.{slice_get}
use Rattle.std.specs.Option.{option_and_then, option_map, option_map_or}
use Rattle.dwg_cert.proofs.Ranks.{rank_of_way, way_of_rank}
use Rattle.dwg_cert.specs.Certified.{rank_of}
use Rattle.dwg_cert.specs.Drawn.{steps_to, home_ends, is_last, left_of, steps_left}
use Rattle.dwg_graph.specs.Graph.{object_at, there, is_root, is_member, owner_step, root_at, ends_of}
use Rattle.dwg_graph.specs.Owners.{spaces, owner_of, next_of}
use Rattle.dwg_graph.specs.Placed.{place_in, next_table, owner_place, owner_table, root_table}
use Rattle.dwg_graph.specs.Places.{Ascend, handles_of}
use Rattle.dwg_graph.proofs.ObjectPaths.{step_to}
use Rattle.dwg_graph.proofs.PlacedObjects.{object_placed, at_place}
use Rattle.dwg_graph.proofs.PlacedPaths.{object_of_place, in_table, table_to, steps_seen, steps_closed, tests_agree, found_within, table_within}
use Rattle.dwg_object.specs.Objects.{ObjectValue, handle_of}
use Rattle.dwg_chains.specs.Paths.{HasRank}
use Rattle.dwg_chains.specs.Tables.{leads, marked, RankIs, AreWithin}
use Rattle.dwg_chains.proofs.PlaceLaws.{rank_seen, contains_of_place}

-- a table that says of each thing what is said of it is the map of that
reported_in_turn : {A B : Type 0} (f : A → Option B) (things : List A) (table : List (Option B)) → length table ≡ length things
    → ((place : ℕ) (x : A) (reported : Option B) → slice_get things place ≡ Some x → slice_get table place ≡ Some reported → reported ≡ f x) → table ≡ map f things
reported_in_turn f [] [] long each = refl
reported_in_turn f [] (reported ∷ table) long each = absurd (omega (arith, long))
reported_in_turn f (x ∷ more) [] long each = absurd (omega (arith, long))
reported_in_turn f (x ∷ more) (reported ∷ table) long each =
    let first : reported ≡ f x = each 0 x reported refl refl in
    let rest : table ≡ map f more = reported_in_turn f more table (omega (arith, long)) (λ place y said stands there. each (suc place) y said stands there) in
    cc (first, rest)

-- at a place a table says what is said of the thing there
pub reported_at : {A B : Type 0} (f : A → Option B) (things : List A) (table : List (Option B)) (place : ℕ) (x : A) → table ≡ map f things → slice_get things place ≡ Some x → get_or table place None ≡ f x
reported_at {A} {B} f things table place x is stands =
    get_or_from_slice_get table place (f x) None (ap (λ (those : List (Option B)). slice_get those place) is ∙ slice_get-map f things place ∙ ap (option_map f) stands)

-- the ends of the block of which an object is a member are found by where its owner stands
pub home_placed : (objects : List ObjectValue) (x : ObjectValue) (owner : Option ℕ) → owner ≡ owner_place objects (spaces objects) x
    → option_and_then (λ block. if is_member (spaces objects) block x then ends_of block else None) (option_and_then (slice_get objects) owner) ≡ home_ends objects x
unfolding home_ends
home_placed objects x owner at =
    ap (option_and_then (λ block. if is_member (spaces objects) block x then ends_of block else None))
    (ap (option_and_then (slice_get objects)) at ∙ object_placed objects (owner_of (spaces objects) x))

-- what is said of the rank of an object's place is how many steps lead from the object
rank_reported : (objects : List ObjectValue) (target : ObjectValue → ℕ) (test : ObjectValue → Bool) (place : ℕ) (x : ObjectValue) (rank : Option ℕ) → Ascend (handles_of objects) → slice_get objects place ≡ Some x
    → RankIs (table_to objects target) (map test objects) place rank → rank ≡ steps_to objects target test (handle_of x)
unfolding steps_to
rank_reported objects target test place x rank ascend stands is = go rank is (steps_to objects target test (handle_of x)) refl
  where
    handle : slice_get (handles_of objects) place ≡ Some (handle_of x)
    handle = slice_get-map handle_of objects place ∙ ap (option_map handle_of) stands

    seen : (n : ℕ) → HasRank (leads (table_to objects target)) (marked (map test objects)) place n
        ↔ HasRank (step_to objects target) (λ one. option_map_or test (object_at objects one) false) (handle_of x) n
    seen n = rank_seen (handles_of objects) (leads (table_to objects target)) (step_to objects target) (marked (map test objects)) (λ one. option_map_or test (object_at objects one) false)
        (steps_seen objects target ascend) (tests_agree objects test ascend) place (handle_of x) n handle

    go : (rank : Option ℕ) → RankIs (table_to objects target) (map test objects) place rank → (steps : Option ℕ) → steps_to objects target test (handle_of x) ≡ steps → rank ≡ steps_to objects target test (handle_of x)
    go (Some n) has steps same = sym (way_of_rank (handles_of objects) (step_to objects target) (λ one. option_map_or test (object_at objects one) false) (length objects) (handle_of x) n
        (steps_closed objects target) (contains_of_place (handles_of objects) place (handle_of x) handle) (length-map objects handle_of) ((seen n).0 has))
    go None none None same = sym same
    go None none (Some n) same = absurd (none n ((seen n).1 (rank_of_way (step_to objects target) (λ one. option_map_or test (object_at objects one) false) (length objects) (handle_of x) n same)))

-- so the ranks of all places are how many steps lead from the objects
ranks_reported : (objects : List ObjectValue) (target : ObjectValue → ℕ) (test : ObjectValue → Bool) (ranks : List (Option ℕ)) → Ascend (handles_of objects) → length ranks ≡ length objects
    → ((place : ℕ) → place < length objects → RankIs (table_to objects target) (map test objects) place (leads ranks place)) → ranks ≡ map (λ x. steps_to objects target test (handle_of x)) objects
ranks_reported objects target test ranks ascend long are =
    reported_in_turn (λ x. steps_to objects target test (handle_of x)) objects ranks long
    (λ place x reported stands there. rank_reported objects target test place x reported ascend stands
    (subst (λ (rank : Option ℕ). RankIs (table_to objects target) (map test objects) place rank) (ap (option_and_then (λ rank. rank)) there) (are place (slice_get_within objects place x stands))))

-- over the tables of owners and of roots they are the ranks of the objects
pub owners_reported : (objects : List ObjectValue) (owners : List (Option ℕ)) (roots : List Bool) (ranks : List (Option ℕ)) → Ascend (handles_of objects) → owners ≡ owner_table objects (spaces objects)
    → roots ≡ root_table objects (spaces objects) → length ranks ≡ length owners → ((place : ℕ) → place < length owners → RankIs owners roots place (leads ranks place)) → ranks ≡ map (rank_of objects) objects
unfolding rank_of owner_step root_at steps_to
owners_reported objects owners roots ranks ascend up goals long are =
    let count : length owners ≡ length objects = ap length up ∙ length-map objects (λ x. place_in (handles_of objects) (owner_of (spaces objects) x)) in
    ranks_reported objects (owner_of (spaces objects)) (is_root (spaces objects)) ranks ascend (long ∙ count)
    (λ place within. subst (λ (marks : List Bool). RankIs (owner_table objects (spaces objects)) marks place (leads ranks place)) goals
    (subst (λ (table : List (Option ℕ)). RankIs table roots place (leads ranks place)) up (are place (omega (arith, within, count)))))

-- over those of what follows and of the last of blocks they are how many steps are left
pub next_reported : (objects : List ObjectValue) (next : List (Option ℕ)) (lasts : List Bool) (ranks : List (Option ℕ)) → Ascend (handles_of objects) → next ≡ next_table objects → lasts ≡ map (is_last objects) objects
    → length ranks ≡ length next → ((place : ℕ) → place < length next → RankIs next lasts place (leads ranks place)) → ranks ≡ map (left_of objects) objects
unfolding left_of steps_left
next_reported objects next lasts ranks ascend on goals long are =
    let count : length next ≡ length objects = ap length on ∙ length-map objects (λ x. place_in (handles_of objects) (next_of x)) in
    ranks_reported objects next_of (is_last objects) ranks ascend (long ∙ count)
    (λ place within. subst (λ (marks : List Bool). RankIs (next_table objects) marks place (leads ranks place)) goals
    (subst (λ (table : List (Option ℕ)). RankIs table lasts place (leads ranks place)) on (are place (omega (arith, within, count)))))

-- what follows stands at places of the table
pub next_fit : (objects : List ObjectValue) (next : List (Option ℕ)) → next ≡ next_table objects → AreWithin (length next) next
next_fit objects next same =
    subst (λ (table : List (Option ℕ)). AreWithin (length table) table) (sym same)
    (subst (λ n. AreWithin n (next_table objects)) (sym (length-map objects (λ x. place_in (handles_of objects) (next_of x))))
    (table_within objects (λ x. place_in (handles_of objects) (next_of x))
    (λ x to found. subst (λ n. to < n) (length-map objects handle_of) (found_within (handles_of objects) (next_of x) to found))))

-- no steps lead from a handle of no object
no_steps : (objects : List ObjectValue) (target : ObjectValue → ℕ) (test : ObjectValue → Bool) (handle : ℕ) → object_at objects handle ≡ None → steps_to objects target test handle ≡ None
unfolding steps_to HasRank
no_steps objects target test handle missing = go (steps_to objects target test handle) refl
  where
    never : (n : ℕ) → HasRank (step_to objects target) (λ one. option_map_or test (object_at objects one) false) handle n → ⊥
    never zero has = cc (has, ap (λ found. option_map_or test found false) missing)
    never (suc n) has = cc (has.2, ap (option_and_then (λ x. there objects (target x))) missing)

    go : (steps : Option ℕ) → steps_to objects target test handle ≡ steps → steps_to objects target test handle ≡ None
    go None same = same
    go (Some n) same = absurd (never n (rank_of_way (step_to objects target) (λ one. option_map_or test (object_at objects one) false) (length objects) handle n same))

-- how many steps are left from a handle is reported at its place
pub left_placed : (objects : List ObjectValue) (left : List (Option ℕ)) (handle : ℕ) (place : Option ℕ) → left ≡ map (left_of objects) objects → place ≡ place_in (handles_of objects) handle
    → option_and_then (leads left) place ≡ steps_left objects handle
unfolding left_of steps_left
left_placed objects left handle place same at = ap (option_and_then (leads left)) at ∙ go (place_in (handles_of objects) handle) refl
  where
    go : (found : Option ℕ) → place_in (handles_of objects) handle ≡ found → option_and_then (leads left) found ≡ steps_left objects handle
    go None missing = sym (no_steps objects next_of (is_last objects) handle (sym (object_placed objects handle) ∙ ap (option_and_then (slice_get objects)) missing))
    go (Some p) found =
        let stands = object_of_place objects p handle (at_place (handles_of objects) handle p found) in
        ap (λ (table : List (Option ℕ)). leads table p) same ∙ in_table objects (left_of objects) p stands.0 stands.1 ∙ ap (steps_left objects) stands.2
