-- The slots of each object are a part of those of all.
use Rattle.std.proofs.Common.{◌≡◌, refl, sym, ap, subst, ◌∙◌, ◌<◌, ◌≤◌, ◌+◌, ◌-◌, ℕ, zero, suc, List, [], ◌∷◌, ◌++◌, length, map, get_or, take, drop, Option, Some, inl, inr, arith}
use Rattle.std.specs.Prelude.{◌⊎◌, flat_map}
use Rattle.std.specs.List.{slice_get, slice_index_or}
use Rattle.std.proofs.lemmas.Bool.{cases_lt}
use Rattle.std.proofs.lemmas.List.{append-nil, map-append, drop-drop, drop_at, drop-map, length-append, length-map, take-map, take_all, take_at, take_more, take-append-le, get_or_append_left, get_or_push}
use Rattle.std.proofs.lemmas.Grind.{flat_map-append}
use Rattle.std.proofs.lemmas.List.Concat.{length-flat_map}
use Rattle.std.proofs.lemmas.List.Sums.{sum_by-take-le}
use Rattle.std.proofs.lemmas.Option.{same_Some, slice_get_within, get_or_from_slice_get}
use Rattle.dwg_audit.specs.declared.lookups.ObjectReferences.{ObjectReferences}
use Rattle.dwg_audit.specs.Lookups.{AreGathered, AreStarts, all_slots, part_of}
use Rattle.dwg_graph.specs.declared.owner.SpaceHandles.{SpaceHandles}
use Rattle.dwg_graph.specs.Claimed.{reference_count}
use Rattle.dwg_graph.specs.Owners.{next_of, owner_of}
use Rattle.dwg_graph.specs.declared.slot.Slot.{Slot}
use Rattle.dwg_graph.specs.Slots.{slots}
use Rattle.dwg_graph.proofs.Counting.{value_there}
use Rattle.dwg_object.specs.declared.object.Object as declared
use Rattle.dwg_object.specs.Objects.{ObjectValue, value_of}

-- a prefix of joined lists is the first of them
prefix_taken : {A : Type 0} (prefix back : List A) → take (length prefix) (prefix ++ back) ≡ prefix
prefix_taken prefix back = take_at prefix back (length prefix) refl

-- what is left after it
prefix_dropped : {A : Type 0} (prefix back : List A) (more : ℕ) → drop (length prefix + more) (prefix ++ back) ≡ drop more back
prefix_dropped prefix back more = sym (drop-drop more (length prefix) (prefix ++ back)) ∙ ap (drop more) (drop_at prefix back (length prefix) refl)

-- of joined lists, the one of a thing is the part between the lists before it and those with it
pub part_of_all : {A B : Type 0} (f : A → List B) (things : List A) (place : ℕ) (x : A) → slice_get things place ≡ Some x
    → take (length (flat_map f (take (suc place) things)) - length (flat_map f (take place things))) (drop (length (flat_map f (take place things))) (flat_map f things)) ≡ f x
part_of_all {A} {B} f [] place x at = absurd (cc at)
part_of_all {A} {B} f (first ∷ more) zero x at =
    let one : length (f first ++ []) - 0 ≡ length (f first) = omega (arith, ap length (append-nil (f first))) in
    ap (λ (n : ℕ). take n (f first ++ flat_map f more)) one ∙ prefix_taken (f first) (flat_map f more) ∙ ap f (same_Some first x at)
part_of_all {A} {B} f (first ∷ more) (suc place) x at =
    let before : ℕ = length (flat_map f (take place more)) in
    let with : ℕ = length (flat_map f (take (suc place) more)) in
    let from : length (f first ++ flat_map f (take place more)) ≡ length (f first) + before = length-append (f first) (flat_map f (take place more)) in
    let to : length (f first ++ flat_map f (take (suc place) more)) ≡ length (f first) + with = length-append (f first) (flat_map f (take (suc place) more)) in
    let wide : length (f first ++ flat_map f (take (suc place) more)) - length (f first ++ flat_map f (take place more)) ≡ with - before = omega (arith, from, to) in
    ap (λ (n : ℕ). take n (drop (length (f first ++ flat_map f (take place more))) (f first ++ flat_map f more))) wide
    ∙ ap (λ (n : ℕ). take (with - before) (drop n (f first ++ flat_map f more))) from
    ∙ ap (take (with - before)) (prefix_dropped (f first) (flat_map f more) before)
    ∙ part_of_all f more place x at

-- a part of what is seen is what is seen of the part
pub part_seen : {A B : Type 0} (view : A → B) (wide from : ℕ) (all : List A) → take wide (drop from (map view all)) ≡ map view (take wide (drop from all))
part_seen {A} {B} view wide from all = ap (take wide) (drop-map view from all) ∙ take-map view wide (drop from all)

-- joined lists of more things are longer
grows : {A B : Type 0} (f : A → List B) (things : List A) (place : ℕ) → length (flat_map f (take place things)) ≤ length (flat_map f (take (suc place) things))
grows {A} {B} f [] zero = omega arith
grows {A} {B} f [] (suc place) = omega arith
grows {A} {B} f (first ∷ more) zero = omega arith
grows {A} {B} f (first ∷ more) (suc place) =
    omega (arith, length-append (f first) (flat_map f (take place more)), length-append (f first) (flat_map f (take (suc place) more)), grows f more place)

-- and those of all are the longest
ends : {A B : Type 0} (f : A → List B) (things : List A) (place : ℕ) → length (flat_map f (take place things)) ≤ length (flat_map f things)
ends {A} {B} f things place = omega (arith, length-flat_map f (take place things), length-flat_map f things, sum_by-take-le (λ (x : A). length (f x)) things place)

starts_grow : (objects : List ObjectValue) (place : ℕ) → length (all_slots (take place objects)) ≤ length (all_slots (take (suc place) objects))
unfolding all_slots
starts_grow objects place = grows slots objects place

starts_within : (objects : List ObjectValue) (place : ℕ) → length (all_slots (take place objects)) ≤ length (all_slots objects)
unfolding all_slots
starts_within objects place = ends slots objects place

slots_of_object : (objects : List ObjectValue) (place : ℕ) (x : ObjectValue) → slice_get objects place ≡ Some x
    → take (length (all_slots (take (suc place) objects)) - length (all_slots (take place objects))) (drop (length (all_slots (take place objects))) (all_slots objects)) ≡ slots x
unfolding all_slots
slots_of_object objects place x at = part_of_all slots objects place x at

-- there are as many as are counted
pub slots_counted : (objects : List ObjectValue) → length (all_slots objects) ≡ reference_count objects
unfolding all_slots reference_count
slots_counted objects = length-flat_map slots objects

-- those of one object more
pub slots_of_more : (objects : List ObjectValue) (x : ObjectValue) → all_slots (objects ++ x ∷ []) ≡ all_slots objects ++ slots x
unfolding all_slots
slots_of_more objects x = flat_map-append slots objects (x ∷ []) ∙ ap (λ back. flat_map slots objects ++ back) (append-nil (slots x))

-- where the slots begin, of one object more
starts_more : (objects : List ObjectValue) (x : ObjectValue) (starts : List ℕ) (end : ℕ) → AreStarts objects starts → end ≡ length (all_slots (objects ++ x ∷ [])) → AreStarts (objects ++ x ∷ []) (starts ++ end ∷ [])
starts_more objects x starts end are is = record {
  count = omega (arith, length-append starts (end ∷ []), length-append objects (x ∷ []), are.count);
  each = λ place most. each place most (cases_lt place (length starts));
}
  where
    each : (place : ℕ) → place ≤ length (objects ++ x ∷ []) → (place < length starts) ⊎ (length starts ≤ place) → slice_index_or (starts ++ end ∷ []) place 0 ≡ length (all_slots (take place (objects ++ x ∷ [])))
    each place most (inl before) =
        get_or_append_left starts (end ∷ []) 0 place before
        ∙ are.each place (omega (arith, before, are.count))
        ∙ ap (λ (prefix : List ObjectValue). length (all_slots prefix)) (sym (take-append-le place objects (x ∷ []) (omega (arith, before, are.count))))
    each place most (inr after) =
        let last : length starts ≡ place = omega (arith, after, most, length-append objects (x ∷ []), are.count) in
        get_or_push starts end 0 place last
        ∙ is
        ∙ ap (λ (prefix : List ObjectValue). length (all_slots prefix)) (sym (take_all place (objects ++ x ∷ []) (omega (arith, last, length-append objects (x ∷ []), are.count))))

-- no slot of no object
pub starts_begin : (starts : List ℕ) → starts ≡ 0 ∷ [] → AreStarts [] starts
unfolding all_slots
starts_begin starts is = record {
  count = ap length is;
  each = λ place most.
      let first : place ≡ 0 = omega (arith, most) in
      subst (λ n. slice_index_or starts n 0 ≡ length (flat_map slots (take n []))) (sym first) (ap (λ (all : List ℕ). slice_index_or all 0 0) is);
}

-- no slots are gathered of no object
pub no_slots : (slots : List Slot) → slots ≡ [] → slots ≡ all_slots []
unfolding all_slots
no_slots slots is = is

-- the objects so far, and one more
pub one_object_more : (objects : List declared.Object) (i : ℕ) (object : declared.Object) → i < length objects → object ≡ get_or objects i object
    → take i (map value_of objects) ++ value_of object ∷ [] ≡ take (i + 1) (map value_of objects)
one_object_more objects i object within is =
    let there : slice_get (map value_of objects) i ≡ Some (value_of object) = value_there objects i object within is in
    sym (take_more (map value_of objects) i (value_of object) (slice_get_within (map value_of objects) i (value_of object) there)
    ∙ ap (λ (x : ObjectValue). take i (map value_of objects) ++ x ∷ []) (get_or_from_slice_get (map value_of objects) i (value_of object) (value_of object) there))

-- what one object more refers to is gathered
pub gathers_more : (objects : List ObjectValue) (known : Option SpaceHandles) (x : ObjectValue) (before after : ObjectReferences) → AreGathered objects known before
    → after.owners.items ≡ before.owners.items ++ owner_of known x ∷ [] → after.next.items ≡ before.next.items ++ next_of x ∷ []
    → after.slots ≡ before.slots ++ slots x → after.starts.items ≡ before.starts.items ++ length after.slots ∷ [] → AreGathered (objects ++ x ∷ []) known after
gathers_more objects known x before after are owner next grown start = record {
  owners = owner ∙ ap (λ prefix. prefix ++ owner_of known x ∷ []) are.owners ∙ sym (map-append (owner_of known) objects (x ∷ []));
  next = next ∙ ap (λ prefix. prefix ++ next_of x ∷ []) are.next ∙ sym (map-append next_of objects (x ∷ []));
  slots = all;
  starts = subst (AreStarts (objects ++ x ∷ [])) (sym start) (starts_more objects x before.starts.items (length after.slots) are.starts (ap length all));
}
  where
    all : after.slots ≡ all_slots (objects ++ x ∷ [])
    all = grown ∙ ap (λ prefix. prefix ++ slots x) are.slots ∙ sym (slots_of_more objects x)

-- nothing is gathered of no object
pub gathers_none : (known : Option SpaceHandles) (gathered : ObjectReferences) → gathered.owners.items ≡ [] → gathered.next.items ≡ [] → gathered.slots ≡ [] → gathered.starts.items ≡ 0 ∷ []
    → AreGathered [] known gathered
gathers_none known gathered owners next slots starts = record {
  owners = owners;
  next = next;
  slots = no_slots gathered.slots slots;
  starts = starts_begin gathered.starts.items starts;
}

-- what a table says of where the slots of an object begin and end
pub record AreBounds (objects : List ObjectValue) (place from to : ℕ) : Type 0 where
  pub begins : from ≡ length (all_slots (take place objects))
  pub ends : to ≡ length (all_slots (take (suc place) objects))

pub bounds_reported : (objects : List ObjectValue) (starts : List ℕ) (place next from to : ℕ) → AreStarts objects starts → place < length objects → next ≡ suc place
    → from ≡ slice_index_or starts place 0 → to ≡ slice_index_or starts next 0 → AreBounds objects place from to
bounds_reported objects starts place next from to are within further begins ends_there = record {
  begins = begins ∙ are.each place (omega (arith, within));
  ends = ends_there ∙ are.each next (omega (arith, within, further))
      ∙ ap (λ (n : ℕ). length (all_slots (take n objects))) further;
}

-- the same of objects that are in hand
pub bounds_there : (objects : List declared.Object) (starts : List ℕ) (place from to : ℕ) → AreStarts (map value_of objects) starts → place < length objects
    → from ≡ slice_index_or starts place 0 → to ≡ slice_index_or starts (place + 1) 0 → AreBounds (map value_of objects) place from to
bounds_there objects starts place from to are within begins ends =
    bounds_reported (map value_of objects) starts place (place + 1) from to are (omega (arith, within, length-map objects value_of)) (omega arith) begins ends

pub bounds_ordered : (objects : List ObjectValue) (place from to : ℕ) → AreBounds objects place from to → from ≤ to
bounds_ordered objects place from to are = omega (arith, are.begins, are.ends, starts_grow objects place)

pub bounds_within : (objects : List ObjectValue) (place from to : ℕ) → AreBounds objects place from to → to ≤ length (all_slots objects)
bounds_within objects place from to are = omega (arith, are.ends, starts_within objects (suc place))

-- the part between them is that of the object
pub part_reported : {T : Type 0} (objects : List ObjectValue) (place from to : ℕ) (things : List T) → AreBounds objects place from to → take (to - from) (drop from things) ≡ part_of objects place things
part_reported objects place from to things are =
    ap (λ (n : ℕ). take (n - from) (drop from things)) are.ends ∙ ap (λ (n : ℕ). take (length (all_slots (take (suc place) objects)) - n) (drop n things)) are.begins

-- of all slots it has those of the object
pub part_is : (objects : List ObjectValue) (place : ℕ) (x : ObjectValue) → slice_get objects place ≡ Some x → part_of objects place (all_slots objects) ≡ slots x
part_is objects place x at = slots_of_object objects place x at

-- and of what is seen of all slots, what is seen of those
pub part_is_seen : {B : Type 0} (view : Slot → B) (objects : List ObjectValue) (place : ℕ) (x : ObjectValue) → slice_get objects place ≡ Some x → part_of objects place (map view (all_slots objects)) ≡ map view (slots x)
part_is_seen {B} view objects place x at =
    part_seen view (length (all_slots (take (suc place) objects)) - length (all_slots (take place objects))) (length (all_slots (take place objects))) (all_slots objects)
    ∙ ap (map view) (part_is objects place x at)
