-- What objects refer to, and where that stands.
use Rattle.std.proofs.Common.{◌≡◌, sym, ap, subst, ◌∙◌, ◌+◌, ◌*◌, ℕ, List, length, map, Option}
use Rattle.std.proofs.lemmas.List.{length-map}
use Rattle.std.proofs.lemmas.Simd.{map-map}
use Rattle.dwg_audit.proofs.LookupSteps.{all_taken}
use Rattle.dwg_audit.proofs.Slicing.{slots_counted}
use Rattle.dwg_audit.specs.declared.lookups.ObjectReferences.{ObjectReferences}
use Rattle.dwg_audit.specs.declared.lookups.Lookups.{Lookups}
use Rattle.dwg_audit.specs.Lookups.{AreGathered, AreLookups, AreStarts, TakeAtMost, all_slots}
use Rattle.dwg_graph.specs.declared.owner.SpaceHandles.{SpaceHandles}
use Rattle.dwg_graph.specs.declared.slot.Slot.{Slot}
use Rattle.dwg_graph.specs.Claimed.{reference_count}
use Rattle.dwg_graph.specs.Owners.{next_of, owner_of}
use Rattle.dwg_graph.specs.Placed.{place_in}
use Rattle.dwg_graph.specs.Places.{handles_of}
use Rattle.dwg_object.specs.declared.object.Object as declared
use Rattle.dwg_object.specs.Objects.{ObjectValue, handle_of, value_of}

-- what objects name, looked up
named_there : (f : ObjectValue → ℕ) (objects : List ObjectValue) (index named : List ℕ) (places : List (Option ℕ)) → index ≡ handles_of objects → named ≡ map f objects
    → places ≡ map (λ (name : ℕ). place_in index name) named → places ≡ map (λ (x : ObjectValue). place_in (handles_of objects) (f x)) objects
named_there f objects index named places is are reported =
    reported ∙ ap (map (λ (name : ℕ). place_in index name)) are ∙ map-map (λ (name : ℕ). place_in index name) f objects
    ∙ ap (λ (handles : List ℕ). map (λ (x : ObjectValue). place_in handles (f x)) objects) is

-- all that is gathered is looked up
pub are_looked_up : (objects : List ObjectValue) (known : Option SpaceHandles) (gathered : ObjectReferences) (lookups : Lookups) (index : List ℕ) → index ≡ handles_of objects → AreGathered objects known gathered
    → lookups.owners.items ≡ map (λ (name : ℕ). place_in index name) gathered.owners.items → lookups.next.items ≡ map (λ (name : ℕ). place_in index name) gathered.next.items
    → lookups.slots.places.items ≡ map (λ (slot : Slot). place_in index slot.target) gathered.slots → lookups.slots.slots ≡ gathered.slots → lookups.slots.starts ≡ gathered.starts
    → AreLookups objects known lookups
are_looked_up objects known gathered lookups index is are owners next places slots starts = record {
  owners = named_there (owner_of known) objects index gathered.owners.items lookups.owners.items is are.owners owners;
  next = named_there next_of objects index gathered.next.items lookups.next.items is are.next next;
  slots = record {
    slots = slots ∙ are.slots;
    places = places ∙ ap (map (λ (slot : Slot). place_in index slot.target)) are.slots ∙ ap (λ (handles : List ℕ). map (λ (slot : Slot). place_in handles slot.target) (all_slots objects)) is;
    starts = subst (λ starts. AreStarts objects starts.items) (sym starts) are.starts;
  };
}

-- each lookup takes its steps
pub steps_taken : (objects : List declared.Object) (known : Option SpaceHandles) (gathered : ObjectReferences) (index owners next : List ℕ) (held : List Slot) (first second third fourth : ℕ)
    → index ≡ handles_of (map value_of objects) → AreGathered (map value_of objects) known gathered → owners ≡ gathered.owners.items → next ≡ gathered.next.items → held ≡ gathered.slots
    → TakeAtMost (length index) (length owners) first second → TakeAtMost (length index) (length next) second third → TakeAtMost (length index) (length held) third fourth
    → TakeAtMost (length objects) (2 * length objects + reference_count (map value_of objects)) first fourth
steps_taken objects known gathered index owners next held first second third fourth is are as_owners as_next as_held one two three =
    let many : length owners ≡ length objects = ap length as_owners ∙ ap length are.owners ∙ length-map (map value_of objects) (owner_of known) ∙ length-map objects value_of in
    let also : length next ≡ length owners = ap length as_next ∙ ap length are.next ∙ length-map (map value_of objects) next_of ∙ length-map objects value_of ∙ sym many in
    let slots : length held ≡ reference_count (map value_of objects) = ap length as_held ∙ ap length are.slots ∙ slots_counted (map value_of objects) in
    let handles : length index ≡ length objects = ap length is ∙ length-map (map value_of objects) handle_of ∙ length-map objects value_of in
    subst (λ n. TakeAtMost n (2 * length objects + reference_count (map value_of objects)) first fourth) handles
    (subst (λ n. TakeAtMost (length index) (2 * n + reference_count (map value_of objects)) first fourth) many
    (all_taken (length index) (length owners) (length next) (length held) (reference_count (map value_of objects)) first second third fourth also slots one two three))
