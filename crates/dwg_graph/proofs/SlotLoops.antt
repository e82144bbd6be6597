-- The slots of a holder are counted one after the other.
use Rattle.std.proofs.Common.{◌≡◌, sym, ◌∙◌, ap, subst, ◌<◌, ◌≤◌, ◌+◌, ℕ, List, [], ◌∷◌, ◌++◌, length, take, Option, Some, Bool, arith}
use Rattle.std.specs.Prelude.{if◌then◌else◌}
use Rattle.std.specs.List.{slice_get, count_by}
use Rattle.std.proofs.lemmas.List.{take_more, take_all, length-take-le}
use Rattle.std.proofs.lemmas.List.Elements.{filter-append}
use Rattle.std.proofs.lemmas.List.Sums.{sum_by-append, count_by-le-length}
use Rattle.std.proofs.lemmas.Option.{slice_get_within, get_or_from_slice_get}
use Rattle.dwg_graph.specs.declared.claims.Claimed.{Claimed}
use Rattle.dwg_graph.specs.declared.owner.SpaceHandles.{SpaceHandles}
use Rattle.dwg_graph.specs.declared.slot.Slot.{Slot}
use Rattle.dwg_graph.specs.Claimed.{Adds, AddsBoth, AreBothOpen, IsOpen, claiming, leads_down, leads_to}
use Rattle.dwg_graph.specs.Graph.{claims_by}
use Rattle.dwg_graph.specs.Slots.{slots}
use Rattle.dwg_graph.proofs.Counting.{adds_nothing, claiming_few, stands_there}
use Rattle.dwg_kinds.specs.declared.kind.Kind.{Kind}
use Rattle.dwg_object.specs.Objects.{ObjectValue, handle_of, kind_of}

-- slots that claim, of two lists
claiming_both : (kind : Kind) (one other : List Slot) → claiming kind (one ++ other) ≡ claiming kind one ++ claiming kind other
unfolding claiming
claiming_both kind one other = filter-append (λ (slot : Slot). claims_by kind slot.field) one other

-- counts that grow twice
adds_both : (objects : List ObjectValue) (test : ObjectValue → Slot → Bool) (one other : List Slot) (before between after : List ℕ) → Adds objects test one before between
    → Adds objects test other between after → Adds objects test (one ++ other) before after
adds_both objects test one other before between after first second = record {
  long = second.long ∙ first.long;
  each = λ place x stands.
      let sum : count_by (test x) (one ++ other) ≡ count_by (test x) one + count_by (test x) other = sum_by-append (λ slot. if test x slot then 1 else 0) one other in
      omega (arith, sum, first.each place x stands, second.each place x stands);
}

-- one more is counted
one_more : (objects : List ObjectValue) (test : ObjectValue → Slot → Bool) (kind : Kind) (held : List Slot) (i : ℕ) (slot : Slot) (before between after : List ℕ)
    → slice_get held i ≡ Some slot → Adds objects test (claiming kind (take i held)) before between → Adds objects test (claiming kind (slot ∷ [])) between after
    → Adds objects test (claiming kind (take (i + 1) held)) before after
one_more objects test kind held i slot before between after at is adds =
    let within : i < length held = slice_get_within held i slot at in
    let more : take (i + 1) held ≡ take i held ++ slot ∷ [] = take_more held i slot within ∙ ap (λ (s : Slot). take i held ++ s ∷ []) (get_or_from_slice_get held i slot slot at) in
    let split : claiming kind (take (i + 1) held) ≡ claiming kind (take i held) ++ claiming kind (slot ∷ []) = ap (claiming kind) more ∙ claiming_both kind (take i held) (slot ∷ []) in
    subst (λ counted. Adds objects test counted before after) (sym split) (adds_both objects test (claiming kind (take i held)) (claiming kind (slot ∷ [])) before between after is adds)

-- there is room for one more
room_for_one : (objects : List ObjectValue) (test : ObjectValue → Slot → Bool) (kind : Kind) (held : List Slot) (i : ℕ) (before after : List ℕ) → i < length held
    → IsOpen objects (length held) before → Adds objects test (claiming kind (take i held)) before after → IsOpen objects 1 after
room_for_one objects test kind held i before after within roomy adds = record {
  long = adds.long ∙ roomy.long;
  room = λ place inside.
      let there = stands_there objects place inside in
      let few : count_by (test there.0) (claiming kind (take i held)) ≤ length (claiming kind (take i held)) = count_by-le-length (test there.0) (claiming kind (take i held)) in
      omega (arith, few, claiming_few kind (take i held), length-take-le i held (omega (arith, within)), within, adds.each place there.0 there.1, roomy.room place inside);
}

-- no slot of a holder is counted
pub none_counted : (objects : List ObjectValue) (known : Option SpaceHandles) (holder : ObjectValue) (counts : Claimed) → AddsBoth objects known holder [] counts counts
unfolding claiming
none_counted objects known holder counts = record { all = adds_nothing objects leads_to counts.all.items; own = adds_nothing objects (leads_down known (handle_of holder)) counts.own.items }

-- one more is
pub one_counted : (objects : List ObjectValue) (known : Option SpaceHandles) (holder : ObjectValue) (i : ℕ) (slot : Slot) (before between after : Claimed) → slice_get (slots holder) i ≡ Some slot
    → AddsBoth objects known holder (take i (slots holder)) before between → AddsBoth objects known holder (slot ∷ []) between after
    → AddsBoth objects known holder (take (i + 1) (slots holder)) before after
one_counted objects known holder i slot before between after at so_far adds = record {
  all = one_more objects leads_to (kind_of holder) (slots holder) i slot before.all.items between.all.items after.all.items at so_far.all adds.all;
  own = one_more objects (leads_down known (handle_of holder)) (kind_of holder) (slots holder) i slot before.own.items between.own.items after.own.items at so_far.own adds.own;
}

-- all are
pub all_counted : (objects : List ObjectValue) (known : Option SpaceHandles) (holder : ObjectValue) (count : ℕ) (before after : Claimed) → count ≡ length (slots holder)
    → AddsBoth objects known holder (take count (slots holder)) before after → AddsBoth objects known holder (slots holder) before after
all_counted objects known holder count before after all adds =
    subst (λ (counted : List Slot). AddsBoth objects known holder counted before after) (take_all count (slots holder) (omega (arith, all))) adds

-- there is room for one more
pub still_open : (objects : List ObjectValue) (known : Option SpaceHandles) (holder : ObjectValue) (i : ℕ) (before after : Claimed) → i < length (slots holder)
    → AreBothOpen objects (length (slots holder)) before → AddsBoth objects known holder (take i (slots holder)) before after → AreBothOpen objects 1 after
still_open objects known holder i before after within roomy adds = record {
  all = room_for_one objects leads_to (kind_of holder) (slots holder) i before.all.items after.all.items within roomy.all adds.all;
  own = room_for_one objects (leads_down known (handle_of holder)) (kind_of holder) (slots holder) i before.own.items after.own.items within roomy.own adds.own;
}
