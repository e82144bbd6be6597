-- What the kinds hold, field by field: each kind has the fields that it holds, and their numbers ascend. So its slots are of fields that it has, and ascend.
use Rattle.std.proofs.Common.{◌≡◌, ◌≢◌, refl, sym, ap, ◌∙◌, subst, ℕ, Bool, true, false, ◌++◌}
use Rattle.std.specs.Prelude.{IsTrue, Contains}
use Rattle.std.proofs.lemmas.Bool.{true≢false}
use Rattle.dwg_common.specs.declared.entity.EntityCommon.{EntityCommon}
use Rattle.dwg_graph.proofs.FieldLists.{each_field, each_of_both, slots_pass, ascend_from, slots_ascend}
use Rattle.dwg_graph.proofs.ListLemmas.{pairs_none}
use Rattle.dwg_graph.specs.declared.slot.Slot.{Slot}
use Rattle.dwg_graph.specs.Graph.{is_typed}
use Rattle.dwg_graph.specs.SlotLaws.{HoldsFields, OwnersAreHeld, SlotsAreHeld, SlotsAscend, StandsBefore}
use Rattle.dwg_graph.specs.Slots.{held_by_entity, held_by_object, held_by_common, held_by_body, slots}
use Rattle.dwg_kinds.specs.declared.field.Field.{Field}
use Rattle.dwg_kinds.specs.declared.field.Field.TheVariants as fields
use Rattle.dwg_kinds.specs.declared.kind.Kind.{Kind}
use Rattle.dwg_kinds.specs.declared.kind.Kind.TheVariants as kinds
use Rattle.dwg_kinds.specs.Kinds.{is_entity_kind, same_kind}
use Rattle.dwg_kinds.specs.Needs.{field_number, has_field, need_of, owner_need, of_entities, of_one, linetype_need, plotstyle_need, style_need, block_need, end_need, seqend_need, xref_need, entry_need}
use Rattle.dwg_object.specs.declared.body.Body.TheVariants as bodies
use Rattle.dwg_object.specs.declared.body.Body.{Body}
use Rattle.dwg_object.specs.declared.common.Common.TheVariants as commons
use Rattle.dwg_object.specs.declared.common.Common.{Common}
use Rattle.dwg_object.specs.Objects.{ObjectValue, TypedValue, PlainValue, RawValue, is_of_entity}
use Rattle.dwg_object.specs.OwnBodies.{body_kind}
use Rattle.dwg_object.specs.Written.{IsWhole}
use Rattle.dwg_chains.proofs.MemberLemmas.{contains_none}

-- a kind has a field
abbrev held_of : Kind → Field → Bool
held_of kind field = has_field field kind

-- each kind has the fields that it holds of its own
own_held : (body : Body) → IsTrue (each_field (held_of (body_kind body)) (held_by_body body))
unfolding held_by_body has_field need_of linetype_need plotstyle_need style_need block_need end_need seqend_need xref_need entry_need of_one same_kind
own_held (bodies.Text body) = refl
own_held body = refl

-- each kind of entity has the fields of all entities
entity_held : (kind : Kind) (common : EntityCommon) → is_entity_kind kind ≡ true → IsTrue (each_field (held_of kind) (held_by_entity common))
unfolding held_by_entity has_field need_of linetype_need plotstyle_need of_entities
entity_held kinds.Layer common is = rw is refl
entity_held kind common is = rw is refl

-- and each kind those of its common part
common_held : (kind : Kind) (common : Common) → is_of_entity common ≡ is_entity_kind kind → IsTrue (each_field (held_of kind) (held_by_common common))
unfolding held_by_common held_by_object has_field need_of
common_held kind (commons.Entity common) is = entity_held kind common (sym is)
common_held kind (commons.Object common) is = refl

-- the number from which on the fields of a kind's own part are: of an entity, and of any other object
abbrev first_own : Bool → ℕ
first_own true = 10
first_own false = 5

-- the numbers of the fields that a kind holds of its own ascend from there on
own_ascend : (body : Body) → IsTrue (ascend_from (first_own (is_entity_kind (body_kind body))) (held_by_body body))
unfolding held_by_body field_number is_entity_kind
own_ascend (bodies.Text body) = refl
own_ascend body = refl

-- those of a whole object ascend
whole_ascend : (common : Common) (body : Body) → is_of_entity common ≡ is_entity_kind (body_kind body) → IsTrue (ascend_from 1 (held_by_common common ++ held_by_body body))
unfolding held_by_common held_by_entity held_by_object field_number
whole_ascend (commons.Entity common) body is = subst (λ (entity : Bool). IsTrue (ascend_from (first_own entity) (held_by_body body))) (sym is) (own_ascend body)
whole_ascend (commons.Object common) body is = subst (λ (entity : Bool). IsTrue (ascend_from (first_own entity) (held_by_body body))) (sym is) (own_ascend body)

-- every slot of a whole object is of a field that its kind has
pub slots_are_held : SlotsAreHeld
unfolding slots
slots_are_held (TypedValue number handle common body) slot whole there =
    slots_pass (held_of (body_kind body)) (held_by_common common ++ held_by_body body)
    (each_of_both (held_of (body_kind body)) (held_by_common common) (held_by_body body) (common_held (body_kind body) common whole.1) (own_held body))
    slot there
slots_are_held (PlainValue number handle common rest refs) slot whole there = absurd (contains_none slot there)
slots_are_held (RawValue number handle bytes) slot whole there = absurd (contains_none slot there)

-- the slots of a whole object ascend
pub slots_are_ordered : SlotsAscend
unfolding slots
slots_are_ordered (TypedValue number handle common body) whole = slots_ascend 1 (held_by_common common ++ held_by_body body) (whole_ascend common body whole.1)
slots_are_ordered (PlainValue number handle common rest refs) whole = pairs_none StandsBefore
slots_are_ordered (RawValue number handle bytes) whole = pairs_none StandsBefore

-- a field is another than that of the owner
abbrev is_no_owner : Field → Bool
is_no_owner fields.Owner = false
is_no_owner field = true

-- so are those that the kinds hold
own_without_owner : (body : Body) → IsTrue (each_field is_no_owner (held_by_body body))
unfolding held_by_body
own_without_owner (bodies.Text body) = refl
own_without_owner body = refl

-- and those of the common parts
common_without_owner : (common : Common) → IsTrue (each_field is_no_owner (held_by_common common))
unfolding held_by_common held_by_entity held_by_object
common_without_owner (commons.Entity common) = refl
common_without_owner (commons.Object common) = refl

-- no slot of an object is of the field of the owner, which is a reference of its own
pub slots_without_owner : (x : ObjectValue) (slot : Slot) → Contains (slots x) slot → slot.field ≢ fields.Owner
unfolding slots
slots_without_owner (TypedValue number handle common body) slot there =
    let passes : is_no_owner slot.field ≡ true = slots_pass is_no_owner (held_by_common common ++ held_by_body body)
    (each_of_both is_no_owner (held_by_common common) (held_by_body body) (common_without_owner common) (own_without_owner body)) slot there in
    λ is. true≢false (sym passes ∙ ap is_no_owner is)
slots_without_owner (PlainValue number handle common rest refs) slot there = absurd (contains_none slot there)
slots_without_owner (RawValue number handle bytes) slot there = absurd (contains_none slot there)

-- the kind of a Typed object has an owner
pub owners_are_held : OwnersAreHeld
unfolding has_field need_of owner_need
owners_are_held number handle common (bodies.Text body) = refl
owners_are_held number handle common body = refl

-- a Typed object that is whole holds the fields of its references
pub holds_fields : SlotsAreHeld → OwnersAreHeld → (x : ObjectValue) → IsWhole x → IsTrue (is_typed x) → HoldsFields x
holds_fields held owned (TypedValue number handle common body) whole typed = record {
  slots = λ slot stands. held (TypedValue number handle common body) slot whole stands;
  owner = owned number handle common body;
}
holds_fields held owned (PlainValue number handle common rest refs) whole typed = absurd (cc typed)
holds_fields held owned (RawValue number handle bytes) whole typed = absurd (cc typed)
