-- The members of each block are counted one after the other.
use Rattle.std.proofs.Common.{◌≡◌, ◌≢◌, refl, sym, ap, ◌∙◌, subst, ◌<◌, ◌≤◌, ◌+◌, ◌^◌, ℕ, Bool, true, false, List, [], ◌∷◌, ◌++◌, length, take, get_or, replicate, Option, Some, None, inl, inr, arith}
use Rattle.std.specs.Prelude.{◌⊎◌, if◌then◌else◌}
use Rattle.std.specs.List.{filter, slice_get}
use Rattle.std.specs.Option.{option_and_then, option_map}
use Rattle.std.proofs.lemmas.Bool.{cases_order}
use Rattle.std.proofs.lemmas.List.{take_more, take_all, length-append, length-set, get_or-set_same, get_or-set_other, get_or-replicate, length-replicate, length-take-le}
use Rattle.std.proofs.lemmas.List.Elements.{filter-append}
use Rattle.std.proofs.lemmas.List.Sums.{count_by-le-length, length-filter}
use Rattle.std.proofs.lemmas.Option.{cond_some, get_or_from_slice_get, same_Some, slice_get-map, slice_get_within}
use Rattle.dwg_cert.specs.Accepts.{members_of}
use Rattle.dwg_cert.specs.Checked.{CountsMembers, member_counts}
use Rattle.dwg_graph.specs.Claimed.{raised}
use Rattle.dwg_graph.specs.Graph.{is_member}
use Rattle.dwg_graph.specs.Owners.{spaces}
use Rattle.dwg_graph.specs.Placed.{home_at, home_place, owner_place, owner_table, place_in}
use Rattle.dwg_graph.specs.Places.{Ascend, handles_of}
use Rattle.dwg_graph.specs.declared.owner.SpaceHandles.{SpaceHandles}
use Rattle.dwg_graph.proofs.Counting.{stands_there}
use Rattle.dwg_graph.proofs.HolderLoops.{tabled}
use Rattle.dwg_graph.proofs.PlacedObjects.{found_there}
use Rattle.dwg_graph.proofs.PlacedPaths.{in_table}
use Rattle.dwg_graph.proofs.Tests.{member_owner}
use Rattle.dwg_object.specs.Objects.{ObjectValue, handle_of}
use Rattle.dwg_chains.specs.Tables.{leads}
use Rattle.dwg_chains.proofs.WayLemmas.{option_then_found}

-- at an object's place the table of owners has where its owner stands
pub owner_in_table : (objects : List ObjectValue) (known : Option SpaceHandles) (owners : List (Option ℕ)) (place : ℕ) (x : ObjectValue) (owner : Option ℕ) → owners ≡ owner_table objects known
    → slice_get objects place ≡ Some x → owner ≡ leads owners place → owner ≡ owner_place objects known x
owner_in_table objects known owners place x owner same stands is =
    is ∙ ap (λ (table : List (Option ℕ)). leads table place) same ∙ in_table objects (owner_place objects known) place x stands

-- none are counted
pub none_counted : (objects : List ObjectValue) (known : Option SpaceHandles) (counts : List ℕ) → counts ≡ replicate (length objects) 0 → CountsMembers objects known 0 counts
none_counted objects known counts is = record {
  long = ap length is ∙ length-replicate (length objects) 0;
  each = λ place block stands. ap (λ (all : List ℕ). get_or all place 0) is ∙ get_or-replicate (length objects) place 0 0 (slice_get_within objects place block stands);
}

-- a member's home is where its block stands
pub home_of_member : (objects : List ObjectValue) (known : Option SpaceHandles) (x block : ObjectValue) (place : ℕ) → Ascend (handles_of objects) → slice_get objects place ≡ Some block
    → is_member known block x ≡ true → home_place objects known x ≡ Some place
home_of_member objects known x block place ascend stands is =
    let handle : slice_get (handles_of objects) place ≡ Some (handle_of block) = slice_get-map handle_of objects place ∙ ap (option_map handle_of) stands in
    let owner : owner_place objects known x ≡ Some place =
    ap (place_in (handles_of objects)) (sym (member_owner known block x is)) ∙ found_there (handles_of objects) (handle_of block) place ascend handle in
    ap (option_and_then (home_at objects known x)) owner
    ∙ ap (option_and_then (λ (y : ObjectValue). if is_member known y x then Some place else None)) stands
    ∙ ap (λ (b : Bool). if b then Some place else None) is

-- what stands at an object's home is a block of which it is a member
pub member_at_home : (objects : List ObjectValue) (known : Option SpaceHandles) (x block : ObjectValue) (home : ℕ) → home_place objects known x ≡ Some home → slice_get objects home ≡ Some block
    → is_member known block x ≡ true
member_at_home objects known x block home is stands =
    let owner = option_then_found (home_at objects known x) (owner_place objects known x) home is in
    let at = option_then_found (λ (y : ObjectValue). if is_member known y x then Some owner.0 else None) (slice_get objects owner.0) home owner.2 in
    let parts = cond_some (is_member known at.0 x) owner.0 home at.2 in
    let same : at.0 ≡ block = same_Some at.0 block (sym at.1 ∙ ap (slice_get objects) parts.1 ∙ stands) in
    subst (λ (y : ObjectValue). is_member known y x ≡ true) same parts.0

-- what stands at its home stands somewhere
pub home_within : (objects : List ObjectValue) (known : Option SpaceHandles) (x : ObjectValue) (home : ℕ) → home_place objects known x ≡ Some home → home < length objects
home_within objects known x home is =
    let owner = option_then_found (home_at objects known x) (owner_place objects known x) home is in
    let at = option_then_found (λ (y : ObjectValue). if is_member known y x then Some owner.0 else None) (slice_get objects owner.0) home owner.2 in
    let parts = cond_some (is_member known at.0 x) owner.0 home at.2 in
    slice_get_within objects home at.0 (ap (slice_get objects) (sym parts.1) ∙ at.1)

-- one more object, of which a test reports whether it is counted
counted_more : (objects : List ObjectValue) (test : ObjectValue → Bool) (i : ℕ) (x : ObjectValue) → slice_get objects i ≡ Some x
    → length (filter test (take (i + 1) objects)) ≡ length (filter test (take i objects)) + (if test x then 1 else 0)
counted_more objects test i x stands =
    let more : take (i + 1) objects ≡ take i objects ++ x ∷ [] =
    take_more objects i x (slice_get_within objects i x stands) ∙ ap (λ (y : ObjectValue). take i objects ++ y ∷ []) (get_or_from_slice_get objects i x x stands) in
    let split : filter test (take (i + 1) objects) ≡ filter test (take i objects) ++ filter test (x ∷ []) = ap (filter test) more ∙ filter-append test (take i objects) (x ∷ []) in
    omega (arith, ap length split, length-append (filter test (take i objects)) (filter test (x ∷ [])), one (test x) refl)
  where
    one : (b : Bool) → test x ≡ b → length (filter test (x ∷ [])) ≡ (if test x then 1 else 0)
    one true is = rw is refl
    one false is = rw is refl

-- a test that can't hold fails
fails_where : (test : Bool) → (test ≡ true → ⊥) → test ≡ false
fails_where true never = absurd (never refl)
fails_where false never = refl

-- an object without a home is counted nowhere
pub none_more : (objects : List ObjectValue) (known : Option SpaceHandles) (i : ℕ) (x : ObjectValue) (counts : List ℕ) → Ascend (handles_of objects) → slice_get objects i ≡ Some x
    → home_place objects known x ≡ None → CountsMembers objects known i counts → CountsMembers objects known (i + 1) counts
none_more objects known i x counts ascend stands home are = record {
  long = are.long;
  each = λ place block at.
      let fails : is_member known block x ≡ false = fails_where (is_member known block x) (λ is. absurd (cc (home, home_of_member objects known x block place ascend at is))) in
      let none : ◌≡◌ {A = ℕ} (if is_member known block x then 1 else 0) 0 = ap (λ (b : Bool). if b then 1 else 0) fails in
      omega (arith, are.each place block at, counted_more objects (is_member known block) i x stands, none);
}

-- an object with a home is counted there
pub one_more : (objects : List ObjectValue) (known : Option SpaceHandles) (i : ℕ) (x : ObjectValue) (home : ℕ) (before after : List ℕ) → Ascend (handles_of objects) → slice_get objects i ≡ Some x
    → home_place objects known x ≡ Some home → after ≡ raised before home 1 → CountsMembers objects known i before → CountsMembers objects known (i + 1) after
one_more objects known i x home before after ascend stands at grown are = record {
  long = ap length grown ∙ length-set before home (get_or before home 0 + 1) ∙ are.long;
  each = λ place block there. each place block there (cases_order place home);
}
  where
    here : (block : ObjectValue) → slice_get objects home ≡ Some block → get_or after home 0 ≡ length (filter (is_member known block) (take (i + 1) objects))
    here block there =
        let within : home < length before = omega (arith, are.long, slice_get_within objects home block there) in
        let now : get_or after home 0 ≡ get_or before home 0 + 1 = ap (λ (v : List ℕ). get_or v home 0) grown ∙ get_or-set_same before home (get_or before home 0 + 1) 0 within in
        let one : ◌≡◌ {A = ℕ} (if is_member known block x then 1 else 0) 1 = ap (λ (b : Bool). if b then 1 else 0) (member_at_home objects known x block home at there) in
        omega (arith, now, one, are.each home block there, counted_more objects (is_member known block) i x stands)

    elsewhere : (place : ℕ) (block : ObjectValue) → slice_get objects place ≡ Some block → place ≢ home → get_or after place 0 ≡ length (filter (is_member known block) (take (i + 1) objects))
    elsewhere place block there other =
        let now : get_or after place 0 ≡ get_or before place 0 = ap (λ (v : List ℕ). get_or v place 0) grown ∙ get_or-set_other before home place (get_or before home 0 + 1) 0 other in
        let fails : is_member known block x ≡ false =
        fails_where (is_member known block x) (λ is. other (same_Some place home (sym (home_of_member objects known x block place ascend there is) ∙ at))) in
        let none : ◌≡◌ {A = ℕ} (if is_member known block x then 1 else 0) 0 = ap (λ (b : Bool). if b then 1 else 0) fails in
        omega (arith, now, none, are.each place block there, counted_more objects (is_member known block) i x stands)

    each : (place : ℕ) (block : ObjectValue) → slice_get objects place ≡ Some block → (place ≡ home) ⊎ ((place < home) ⊎ (home < place))
        → get_or after place 0 ≡ length (filter (is_member known block) (take (i + 1) objects))
    each place block there (inl same) =
        subst (λ (n : ℕ). get_or after n 0 ≡ length (filter (is_member known block) (take (i + 1) objects))) (sym same) (here block (subst (λ (n : ℕ). slice_get objects n ≡ Some block) same there))
    each place block there (inr (inl less)) = elsewhere place block there (λ same. omega (arith, same, less))
    each place block there (inr (inr more)) = elsewhere place block there (λ same. omega (arith, same, more))

-- there is room for one more
pub room_for_one : (objects : List ObjectValue) (known : Option SpaceHandles) (count place : ℕ) (counts : List ℕ) → length objects < 2 ^ 58 → count ≤ length objects → CountsMembers objects known count counts
    → place < length objects → get_or counts place 0 + 1 < 2 ^ 64
room_for_one objects known count place counts few most are within =
    let block = stands_there objects place within in
    let test : ObjectValue → Bool = is_member known block.0 in
    omega (arith, few, are.each place block.0 block.1, length-filter test (take count objects), count_by-le-length test (take count objects), length-take-le count objects most, most)

-- where all are counted, the counts are those of the members
pub all_members : (objects : List ObjectValue) (count : ℕ) (counts : List ℕ) → length objects ≤ count → CountsMembers objects (spaces objects) count counts → counts ≡ member_counts objects
all_members objects count counts most are =
    tabled (λ (block : ObjectValue). length (members_of objects block)) objects counts are.long
    (λ place block stands. are.each place block stands ∙ ap (λ (all : List ObjectValue). length (filter (is_member (spaces objects) block) all)) (take_all count objects most))

-- an object's home, by where the table has its owner
pub home_by_owner : (objects : List ObjectValue) (known : Option SpaceHandles) (owners : List (Option ℕ)) (place : ℕ) (x : ObjectValue) (owner home : Option ℕ) → owners ≡ owner_table objects known
    → slice_get objects place ≡ Some x → owner ≡ leads owners place → home ≡ option_and_then (home_at objects known x) owner → home ≡ home_place objects known x
home_by_owner objects known owners place x owner home same stands is reported =
    reported ∙ ap (option_and_then (home_at objects known x)) (owner_in_table objects known owners place x owner same stands is)
