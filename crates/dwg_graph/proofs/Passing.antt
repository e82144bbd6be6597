-- Walks along lists of slots.
use Rattle.std.proofs.Common.{zero, suc, ◌≡◌, refl, sym, ◌∙◌, ap, subst, ◌<◌, ◌≤◌, ◌+◌, ◌-◌, ℕ, List, [], ◌∷◌, ◌++◌, length, get_or, drop, Some, arith}
use Rattle.std.specs.Prelude.{map}
use Rattle.std.specs.List.{slice_get}
use Rattle.std.specs.Option.{option_map}
use Rattle.std.proofs.lemmas.List.{append_assoc, append-nil, drop_more, length-map}
use Rattle.std.proofs.Math.ListN.{drop_of_length-le}
use Rattle.std.proofs.lemmas.Option.{same_Some, slice_get_within}
use Rattle.dwg_graph.specs.declared.slot_walk.Walk.{Walk}
use Rattle.dwg_graph.specs.declared.slot_walk.Walk.TheVariants.{Found, Left, Gathered, OutOfMemory}
use Rattle.dwg_graph.specs.declared.slot.Slot.{Slot}
use Rattle.dwg_graph.specs.SlotWalks.{IsAfter, IsGathered, Passes, PassesField, PassesFields, pass}
use Rattle.dwg_graph.specs.Slots.{FieldReferences, slots_from, slots_of}
use Rattle.dwg_grammar.specs.Reference.{Reference}
use Rattle.dwg_kinds.specs.declared.field.Field.{Field}

-- a walk along no slots
after_none : (walk : Walk) → IsAfter walk [] walk
unfolding IsAfter
after_none (Found slot) = refl
after_none (Left count) = refl
after_none (Gathered slots) = sym (append-nil slots)
after_none OutOfMemory = refl

pub passes_none : (walk : Walk) → Passes walk [] walk
passes_none walk = record { after = after_none walk }

-- a search along two lists goes along one and then along the other
searched_both : (count : ℕ) (slots more : List Slot) (last : Walk) → IsAfter (pass count slots) more last → last ≡ pass count (slots ++ more)
unfolding IsAfter
searched_both count [] more last is = is
searched_both zero (slot ∷ slots) more last is = is
searched_both (suc count) (slot ∷ slots) more last is = searched_both count slots more last is

-- and so does a gathering
gathered_both : (before slots more : List Slot) (middle last : Walk) → IsGathered (before ++ slots) middle → IsAfter middle more last → IsGathered (before ++ (slots ++ more)) last
unfolding IsAfter
gathered_both before slots more (Found slot) last is goes_on = absurd is
gathered_both before slots more (Left count) last is goes_on = absurd is
gathered_both before slots more (Gathered between) last is goes_on =
    subst (λ all. IsGathered all last) (ap (λ prefix. prefix ++ more) is ∙ append_assoc before slots more) goes_on
gathered_both before slots more OutOfMemory last is goes_on = subst (IsGathered (before ++ (slots ++ more))) (sym goes_on) tt

-- a walk along two lists goes along one and then along the other
after_both : (first middle last : Walk) (slots more : List Slot) → IsAfter first slots middle → IsAfter middle more last → IsAfter first (slots ++ more) last
unfolding IsAfter
after_both (Found slot) middle last slots more is goes_on = subst (λ walk. IsAfter walk more last) is goes_on
after_both (Left count) middle last slots more is goes_on = searched_both count slots more last (subst (λ walk. IsAfter walk more last) is goes_on)
after_both (Gathered before) middle last slots more is goes_on = gathered_both before slots more middle last is goes_on
after_both OutOfMemory middle last slots more is goes_on = subst (λ walk. IsAfter walk more last) is goes_on

-- a walk along a field is one to those who go on along others
pub passes_field : (first middle : Walk) (held : FieldReferences) → IsAfter first (slots_from held.field 0 held.references) middle → PassesField first held middle
unfolding slots_of
passes_field first middle held is = record {
  goes_on = λ more last goes_on. record { after = after_both first middle last (slots_from held.field 0 held.references) (slots_of more) is goes_on.after };
}

-- so is one that stands still where the field has no references
pub passes_nothing : (walk : Walk) (field : Field) → PassesField walk (record { field = field; references = [] }) walk
unfolding slots_from
passes_nothing walk field = passes_field walk walk (record { field = field; references = [] }) (after_none walk)

-- a walk along no fields
pub passes_end : (walk : Walk) → PassesFields walk [] walk
unfolding slots_of
passes_end walk = record { after = after_none walk }

-- the slots of a field are as many as its references
pub length_of_slots : (field : Field) (at : ℕ) (references : List Reference) → length (slots_from field at references) ≡ length references
unfolding slots_from
length_of_slots field at [] = refl
length_of_slots field at (reference ∷ more) = ap suc (length_of_slots field (at + 1) more)

-- a search that goes on after a list has so many places less before it
pub passed_after : (count : ℕ) (slots : List Slot) → length slots ≤ count → pass count slots ≡ Left (count - length slots)
passed_after count [] past = ap Left (omega arith)
passed_after zero (slot ∷ slots) past = absurd (omega arith)
passed_after (suc count) (slot ∷ slots) past = passed_after count slots (omega arith) ∙ ap Left (omega arith)

-- one that ends within a list finds the slot at its place
pub passed_within : (count : ℕ) (slots : List Slot) → count < length slots → Some (pass count slots) ≡ option_map Found (slice_get slots count)
passed_within count [] within = absurd (omega arith)
passed_within zero (slot ∷ slots) within = refl
passed_within (suc count) (slot ∷ slots) within = passed_within count slots (omega arith)

-- the slot of an item
slot_of_item : {T : Type 0} (refers : T → Reference) (field : Field) (place at : ℕ) (items : List T) (item : T) → slice_get items place ≡ Some item
    → slice_get (slots_from field at (map refers items)) place ≡ Some (record { field = field; position = at + place; target = (refers item).target })
unfolding slots_from
slot_of_item {T} refers field place at [] item here = absurd cc
slot_of_item {T} refers field zero at (first ∷ items) item here =
    ap (λ (one : T). Some (record { field = field; position = at; target = (refers one).target })) (same_Some first item here)
    ∙ ap (λ (n : ℕ). Some (record { field = field; position = n; target = (refers item).target })) (omega arith)
slot_of_item {T} refers field (suc place) at (first ∷ items) item here =
    slot_of_item refers field place (at + 1) items item here ∙ ap (λ (n : ℕ). Some (record { field = field; position = n; target = (refers item).target })) (omega arith)

-- so a search along the slots of a list goes on after them
pub listed_after : {T : Type 0} (refers : T → Reference) (field : Field) (place : ℕ) (items : List T) → length items ≤ place
    → Left (place - length items) ≡ pass place (slots_from field 0 (map refers items))
listed_after {T} refers field place items past =
    let count : length (slots_from field 0 (map refers items)) ≡ length items = length_of_slots field 0 (map refers items) ∙ length-map items refers in
    sym (passed_after place (slots_from field 0 (map refers items)) (omega (arith, count)) ∙ ap (λ (n : ℕ). Left (place - n)) count)

-- or ends in that of the item at its place
pub listed_within : {T : Type 0} (refers : T → Reference) (field : Field) (place : ℕ) (items : List T) (item : T) (target : ℕ)
    → slice_get items place ≡ Some item → target ≡ (refers item).target
    → Found (record { field = field; position = place; target = target }) ≡ pass place (slots_from field 0 (map refers items))
listed_within {T} refers field place items item target here to =
    let all : List Slot = slots_from field 0 (map refers items) in
    let slot : slice_get all place ≡ Some (record { field = field; position = place; target = target }) =
    slot_of_item refers field place 0 items item here
    ∙ ap (λ (n : ℕ). Some (record { field = field; position = n; target = (refers item).target })) (omega arith)
    ∙ ap (λ (n : ℕ). Some (record { field = field; position = place; target = n })) (sym to) in
    same_Some (Found (record { field = field; position = place; target = target })) (pass place all)
    (sym (passed_within place all (slice_get_within all place (record { field = field; position = place; target = target }) slot) ∙ ap (option_map Found) slot))

-- one slot more is gathered
pub gathered_further : {T : Type 0} (refers : T → Reference) (field : Field) (place : ℕ) (items : List T) (item : T) (target : ℕ) (before after whole : List Slot)
    → place < length items → item ≡ get_or items place item → target ≡ (refers item).target → before ++ slots_from field place (map refers (drop place items)) ≡ whole
    → after ≡ before ++ record { field = field; position = place; target = target } ∷ []
    → after ++ slots_from field (place + 1) (map refers (drop (place + 1) items)) ≡ whole
unfolding slots_from
gathered_further {T} refers field place items item target before after whole within here to is new =
    let rest : List Slot = slots_from field (place + 1) (map refers (drop (place + 1) items)) in
    ap (λ prefix. prefix ++ rest) new
    ∙ append_assoc before (record { field = field; position = place; target = target } ∷ []) rest
    ∙ ap (λ (n : ℕ). before ++ record { field = field; position = place; target = n } ∷ rest) (to ∙ ap (λ (one : T). (refers one).target) here)
    ∙ ap (λ (left : List T). before ++ slots_from field place (map refers left)) (sym (drop_more items place item within))
    ∙ is

-- after all items nothing is left to gather
pub gathered_all : {T : Type 0} (refers : T → Reference) (field : Field) (place : ℕ) (items : List T) (before whole : List Slot)
    → length items ≤ place → before ++ slots_from field place (map refers (drop place items)) ≡ whole → before ≡ whole
unfolding slots_from
gathered_all {T} refers field place items before whole after is =
    sym (append-nil before) ∙ ap (λ (rest : List T). before ++ slots_from field place (map refers rest)) (sym (drop_of_length-le items after)) ∙ is

-- references refer to what they are themselves
pub all_themselves : (references : List Reference) → map (λ (reference : Reference). reference) references ≡ references
all_themselves [] = refl
all_themselves (reference ∷ more) = ap (λ rest. reference ∷ rest) (all_themselves more)
