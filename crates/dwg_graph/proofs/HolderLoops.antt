-- The holders are counted one after the other, and all of them give the claims on each object.
use Rattle.std.proofs.Common.{◌≡◌, refl, sym, ◌∙◌, ap, subst, ◌<◌, ◌≤◌, ◌+◌, ◌^◌, ℕ, suc, List, [], ◌∷◌, ◌++◌, length, map, take, get_or, replicate, Option, Some, Bool, true, false, arith}
use Rattle.std.specs.Prelude.{◌==◌, ◌&&◌, if◌then◌else◌}
use Rattle.std.specs.List.{slice_get, filter, flat_map, sum_by, count_by}
use Rattle.std.proofs.lemmas.List.{take_more, take_all, length-map, get_or-replicate, length-replicate}
use Rattle.std.proofs.lemmas.List.Concat.{length-flat_map}
use Rattle.std.proofs.lemmas.List.Elements.{filter-append}
use Rattle.std.proofs.lemmas.List.Sums.{sum_by-cons, sum_by_push, count_by-le-length, length-filter, sum_by_more_le_part}
use Rattle.std.proofs.lemmas.Option.{slice_get_within, get_or_from_slice_get}
use Rattle.dwg_graph.specs.declared.claims.Claimed.{Claimed}
use Rattle.dwg_graph.specs.declared.owner.SpaceHandles.{SpaceHandles}
use Rattle.dwg_graph.specs.declared.slot.Slot.{Slot}
use Rattle.dwg_graph.specs.Claimed.{Adds, AddsBoth, AreBothCounted, AreBothOpen, IsOpen, claiming, leads_to, leads_down, claims_held, reference_count}
use Rattle.dwg_graph.specs.Counts.{by_holder}
use Rattle.dwg_graph.specs.Graph.{Claim, claims, claims_of, claims_by, is_claim}
use Rattle.dwg_graph.specs.Owners.{owner_of}
use Rattle.dwg_graph.specs.Slots.{slots}
use Rattle.dwg_graph.proofs.Counting.{claiming_few, stands_there, value_there}
use Rattle.dwg_object.specs.Objects.{ObjectValue, handle_of, kind_of, value_of}
use Rattle.dwg_object.specs.declared.object.Object as declared

-- how many claims a holder has on an object
pub all_of : ObjectValue → ObjectValue → ℕ
all_of x holder = length (claims_of (handle_of x) holder)

-- how many of them, where it owns it
pub own_of : Option SpaceHandles → ObjectValue → ObjectValue → ℕ
own_of known x holder = length (claims_held (owner_of known x) (claims_of (handle_of x) holder))

-- a count for each object, of what these holders have
pub record AreCounts (objects prefix : List ObjectValue) (one : ObjectValue → ObjectValue → ℕ) (counts : List ℕ) : Type 0 where
  pub long : length counts ≡ length objects
  pub each : (place : ℕ) (x : ObjectValue) → slice_get objects place ≡ Some x → get_or counts place 0 ≡ sum_by (one x) prefix

-- no holder is counted
counts_begin : (objects : List ObjectValue) (one : ObjectValue → ObjectValue → ℕ) → AreCounts objects (take 0 objects) one (replicate (length objects) 0)
counts_begin objects one = record {
  long = length-replicate (length objects) 0;
  each = λ place x stands. get_or-replicate (length objects) place 0 0 (slice_get_within objects place x stands);
}

-- of what passes one test, another keeps what passes both
filter_twice : {A : Type 0} (one other : A → Bool) (things : List A) → filter other (filter one things) ≡ filter (λ x. one x && other x) things
filter_twice {A} one other [] = refl
filter_twice {A} one other (x ∷ more) = by_test (filter_twice one other more) (one x) refl
  where
    by_test : filter other (filter one more) ≡ filter (λ y. one y && other y) more → (passes : Bool) → one x ≡ passes
        → filter other (filter one (x ∷ more)) ≡ filter (λ y. one y && other y) (x ∷ more)
    by_test rest true is = rw is (ap (λ kept. if other x then x ∷ kept else kept) rest)
    by_test rest false is = rw is rest

-- and counts so many
count_passing : {A : Type 0} (one other : A → Bool) (things : List A) → count_by other (filter one things) ≡ count_by (λ x. one x && other x) things
count_passing one other things =
    sym (length-filter other (filter one things)) ∙ ap length (filter_twice one other things) ∙ length-filter (λ x. one x && other x) things

-- of what is seen of things, a test counts those of which it holds
count_seen : {A B : Type 0} (test : B → Bool) (view : A → B) (things : List A) → count_by test (map view things) ≡ count_by (λ x. test (view x)) things
count_seen {A} {B} test view [] = refl
count_seen {A} {B} test view (x ∷ more) =
    omega (arith, sum_by-cons (λ y. if test y then 1 else 0) (view x) (map view more), sum_by-cons (λ y. if test (view y) then 1 else 0) x more, count_seen test view more)

-- tests that say the same count the same
count_same : {A : Type 0} (one other : A → Bool) (things : List A) → ((x : A) → one x ≡ other x) → count_by one things ≡ count_by other things
count_same {A} one other [] same = refl
count_same {A} one other (x ∷ more) same = grind (arith, sum_by-cons, same x, count_same one other more same)

-- the last of three tests moved to the middle
turned : (one two three : Bool) → (one && (two && three)) ≡ ((one && three) && two)
turned one two three = grind arith

-- the slots of a holder that lead to an object are its claims on it
all_counted : (x holder : ObjectValue) → count_by (leads_to x) (claiming (kind_of holder) (slots holder)) ≡ all_of x holder
unfolding all_of claims_of claiming
all_counted x holder =
    count_passing (λ (slot : Slot). claims_by (kind_of holder) slot.field) (leads_to x) (slots holder)
    ∙ sym (length-map (filter (is_claim (kind_of holder) (handle_of x)) (slots holder)) (λ slot. record { holder = handle_of holder; slot = slot })
    ∙ length-filter (is_claim (kind_of holder) (handle_of x)) (slots holder))

-- and so are those of its owner
own_counted : (known : Option SpaceHandles) (x holder : ObjectValue) → count_by (leads_down known (handle_of holder) x) (claiming (kind_of holder) (slots holder)) ≡ own_of known x holder
unfolding own_of claims_of claiming
own_counted known x holder =
    let claim : Slot → Claim = λ slot. record { holder = handle_of holder; slot = slot } in
    let claims_it : Slot → Bool = is_claim (kind_of holder) (handle_of x) in
    let owns : Bool = handle_of holder == owner_of known x in
    count_passing (λ (slot : Slot). claims_by (kind_of holder) slot.field) (leads_down known (handle_of holder) x) (slots holder)
    ∙ count_same _ (λ slot. claims_it slot && owns) (slots holder) (λ slot. turned (claims_by (kind_of holder) slot.field) owns (leads_to x slot))
    ∙ sym (length-filter (by_holder (owner_of known x)) (map claim (filter claims_it (slots holder)))
    ∙ count_seen (by_holder (owner_of known x)) claim (filter claims_it (slots holder))
    ∙ count_passing claims_it (λ slot. owns) (slots holder))

-- a holder has no more claims on an object than slots
all_few : (x holder : ObjectValue) → all_of x holder ≤ length (slots holder)
all_few x holder =
    let claims = claiming (kind_of holder) (slots holder) in
    omega (arith, all_counted x holder, count_by-le-length (leads_to x) claims, claiming_few (kind_of holder) (slots holder))

-- nor where it owns it
own_few : (known : Option SpaceHandles) (x holder : ObjectValue) → own_of known x holder ≤ length (slots holder)
unfolding own_of all_of
own_few known x holder =
    let test : Claim → Bool = by_holder (owner_of known x) in
    let all : List Claim = claims_of (handle_of x) holder in
    omega (arith, length-filter test all, count_by-le-length test all, all_few x holder)

-- one more holder is counted
counts_more : (objects : List ObjectValue) (one : ObjectValue → ObjectValue → ℕ) (test : ObjectValue → Slot → Bool) (counted : List Slot) (i : ℕ) (holder : ObjectValue) (before after : List ℕ)
    → slice_get objects i ≡ Some holder → ((x : ObjectValue) → count_by (test x) counted ≡ one x holder) → AreCounts objects (take i objects) one before
    → Adds objects test counted before after → AreCounts objects (take (i + 1) objects) one after
counts_more objects one test counted i holder before after at same are adds = record {
  long = adds.long ∙ are.long;
  each = λ place x stands.
      let more : take (i + 1) objects ≡ take i objects ++ holder ∷ [] =
      take_more objects i holder (slice_get_within objects i holder at) ∙ ap (λ (y : ObjectValue). take i objects ++ y ∷ []) (get_or_from_slice_get objects i holder holder at) in
      let sum : sum_by (one x) (take (i + 1) objects) ≡ sum_by (one x) (take i objects) + one x holder = ap (sum_by (one x)) more ∙ sum_by_push (one x) (take i objects) holder in
      omega (arith, sum, adds.each place x stands, are.each place x stands, same x);
}

-- there is room for a holder's slots
counts_room : (objects : List ObjectValue) (one : ObjectValue → ObjectValue → ℕ) (i : ℕ) (holder : ObjectValue) (counts : List ℕ) → ((x y : ObjectValue) → one x y ≤ length (slots y))
    → slice_get objects i ≡ Some holder → reference_count objects < 2 ^ 58 → AreCounts objects (take i objects) one counts → IsOpen objects (length (slots holder)) counts
unfolding reference_count
counts_room objects one i holder counts least at few are = record {
  long = are.long;
  room = λ place inside.
      let there = stands_there objects place inside in
      let sum : sum_by (one there.0) (take i objects) + length (slots (get_or objects i holder)) ≤ sum_by (λ (x : ObjectValue). length (slots x)) objects =
      sum_by_more_le_part (one there.0) (λ (x : ObjectValue). length (slots x)) objects i holder (slice_get_within objects i holder at) (least there.0) in
      let same : length (slots (get_or objects i holder)) ≡ length (slots holder) = ap (λ (x : ObjectValue). length (slots x)) (get_or_from_slice_get objects i holder holder at) in
      omega (arith, sum, same, few, are.each place there.0 there.1);
}

-- a list of numbers, of which each is what is said of a thing
pub tabled : {A : Type 0} (f : A → ℕ) (things : List A) (counts : List ℕ) → length counts ≡ length things
    → ((place : ℕ) (x : A) → slice_get things place ≡ Some x → get_or counts place 0 ≡ f x) → counts ≡ map f things
tabled {A} f [] [] long each = refl
tabled {A} f [] (count ∷ counts) long each = absurd (omega (arith, long))
tabled {A} f (x ∷ more) [] long each = absurd (omega (arith, long))
tabled {A} f (x ∷ more) (count ∷ counts) long each =
    let first : count ≡ f x = each 0 x refl in
    let rest : counts ≡ map f more = tabled f more counts (omega (arith, long)) (λ place y stands. each (suc place) y stands) in
    cc (first, rest)

-- those that pass, of lists that stand one after the other
filter_flat : {A B : Type 0} (test : B → Bool) (f : A → List B) (things : List A) → filter test (flat_map f things) ≡ flat_map (λ x. filter test (f x)) things
filter_flat {A} {B} test f [] = refl
filter_flat {A} {B} test f (x ∷ more) = filter-append test (f x) (flat_map f more) ∙ ap (λ (rest : List B). filter test (f x) ++ rest) (filter_flat test f more)

-- all holders give all claims on an object
all_sum : (objects : List ObjectValue) (x : ObjectValue) → sum_by (all_of x) objects ≡ length (claims objects (handle_of x))
unfolding all_of claims
all_sum objects x = sym (length-flat_map (claims_of (handle_of x)) objects)

-- and those of its owner
own_sum : (objects : List ObjectValue) (known : Option SpaceHandles) (x : ObjectValue) → sum_by (own_of known x) objects ≡ length (claims_held (owner_of known x) (claims objects (handle_of x)))
unfolding own_of claims
own_sum objects known x =
    let test : Claim → Bool = by_holder (owner_of known x) in
    sym (ap length (filter_flat test (claims_of (handle_of x)) objects) ∙ length-flat_map (λ holder. filter test (claims_of (handle_of x) holder)) objects)

-- both counts, of what these holders have
pub record AreBothCounts (objects prefix : List ObjectValue) (known : Option SpaceHandles) (counts : Claimed) : Type 0 where
  pub all : AreCounts objects prefix all_of counts.all.items
  pub own : AreCounts objects prefix (own_of known) counts.own.items

-- no holder is counted
pub none_counted : (objects : List declared.Object) (known : Option SpaceHandles) (counts : Claimed) → counts.all.items ≡ replicate (length objects) 0
    → counts.own.items ≡ replicate (length objects) 0 → AreBothCounts (map value_of objects) (take 0 (map value_of objects)) known counts
none_counted objects known counts all own =
    let values : List ObjectValue = map value_of objects in
    let count : length objects ≡ length values = sym (length-map objects value_of) in
    record {
      all = subst (AreCounts values (take 0 values) all_of) (sym (all ∙ ap (λ n. replicate n 0) count)) (counts_begin values all_of);
      own = subst (AreCounts values (take 0 values) (own_of known)) (sym (own ∙ ap (λ n. replicate n 0) count)) (counts_begin values (own_of known));
    }

-- one more is
pub one_counted : (objects : List declared.Object) (known : Option SpaceHandles) (place : ℕ) (holder : declared.Object) (before after : Claimed) → place < length objects
    → holder ≡ get_or objects place holder → AreBothCounts (map value_of objects) (take place (map value_of objects)) known before
    → AddsBoth (map value_of objects) known (value_of holder) (slots (value_of holder)) before after
    → AreBothCounts (map value_of objects) (take (place + 1) (map value_of objects)) known after
one_counted objects known place holder before after within is are adds =
    let values : List ObjectValue = map value_of objects in
    let x : ObjectValue = value_of holder in
    let held = claiming (kind_of x) (slots x) in
    let at = value_there objects place holder within is in
    record {
      all = counts_more values all_of leads_to held place x before.all.items after.all.items at (λ y. all_counted y x) are.all adds.all;
      own = counts_more values (own_of known) (leads_down known (handle_of x)) held place x before.own.items after.own.items at (λ y. own_counted known y x) are.own adds.own;
    }

-- there is room for the slots of one more
pub still_open : (objects : List declared.Object) (known : Option SpaceHandles) (place : ℕ) (holder : declared.Object) (counts : Claimed) → place < length objects → holder ≡ get_or objects place holder
    → reference_count (map value_of objects) < 2 ^ 58 → AreBothCounts (map value_of objects) (take place (map value_of objects)) known counts
    → AreBothOpen (map value_of objects) (length (slots (value_of holder))) counts
still_open objects known place holder counts within is few are =
    let at = value_there objects place holder within is in
    record {
      all = counts_room (map value_of objects) all_of place (value_of holder) counts.all.items all_few at few are.all;
      own = counts_room (map value_of objects) (own_of known) place (value_of holder) counts.own.items (own_few known) at few are.own;
    }

-- all are, and the counts are those of the claims
pub both_counted : (objects : List declared.Object) (known : Option SpaceHandles) (place : ℕ) (counts : Claimed) → length objects ≤ place
    → AreBothCounts (map value_of objects) (take place (map value_of objects)) known counts → AreBothCounted (map value_of objects) known counts
both_counted objects known place counts after are =
    let values : List ObjectValue = map value_of objects in
    let most : length values ≤ place = omega (arith, length-map objects value_of, after) in
    record {
      all = tabled (λ (x : ObjectValue). length (claims values (handle_of x))) values counts.all.items are.all.long
          (λ i x stands. are.all.each i x stands ∙ (ap (sum_by (all_of x)) (take_all place values most) ∙ all_sum values x));
      own = tabled (λ (x : ObjectValue). length (claims_held (owner_of known x) (claims values (handle_of x)))) values counts.own.items are.own.long
          (λ i x stands. are.own.each i x stands ∙ (ap (sum_by (own_of known x)) (take_all place values most) ∙ own_sum values known x));
    }
