-- The first slots of a block that are of the fields of its ends are those of its ends.
use Rattle.std.proofs.Common.{◌≡◌, refl, ap, ◌∙◌, ℕ, ◌+◌, Bool, false, List, [], ◌∷◌, ◌++◌, Some}
use Rattle.std.specs.Prelude.{◌==◌, find, if◌then◌else◌, IsTrue, not}
use Rattle.std.specs.Option.{option_and_then}
use Rattle.std.proofs.lemmas.Bool.{and_parts, not-true}
use Rattle.dwg_audit.specs.Lookups.{is_of, place_of}
use Rattle.dwg_graph.proofs.FieldLists.{each_field}
use Rattle.dwg_graph.specs.declared.slot.Slot.{Slot}
use Rattle.dwg_graph.specs.Graph.{ends_of, known_ends}
use Rattle.dwg_graph.specs.Placed.{place_in}
use Rattle.dwg_graph.specs.Slots.{FieldReferences, slots_from, held_by_entity, held_by_object, held_by_common, held_by_body, slots_of, slots}
use Rattle.dwg_grammar.specs.Reference.{Reference}
use Rattle.dwg_kinds.specs.declared.field.Field.{Field}
use Rattle.dwg_kinds.specs.declared.field.Field.TheVariants as fields
use Rattle.dwg_kinds.specs.Needs.{field_number}
use Rattle.dwg_object.specs.declared.body.Body.TheVariants as bodies
use Rattle.dwg_object.specs.declared.common.Common.TheVariants as commons
use Rattle.dwg_object.specs.declared.common.Common.{Common}
use Rattle.dwg_object.specs.Objects.{TypedValue}
use Rattle.dwg_tables.specs.declared.block_header.BlockHeader.{BlockHeader}
use Rattle.dwg_tables.specs.declared.block_header.Ends.{Ends}

-- two fields are one
abbrev is_same : Field → Field → Bool
is_same field other = field_number field == field_number other

-- the first slot of a field stands after those of another
after_field : (field other : Field) (at : ℕ) (references : List Reference) (back : List Slot) → is_same field other ≡ false
    → find (is_of field) (slots_from other at references ++ back) ≡ find (is_of field) back
unfolding slots_from
after_field field other at [] back differ = refl
after_field field other at (reference ∷ more) back differ =
    ap (λ found. if found then Some (record { field = other; position = at; target = reference.target }) else find (is_of field) (slots_from other (at + 1) more ++ back)) differ
    ∙ after_field field other (at + 1) more back differ

-- and after those of others
after_fields : (field : Field) (prefix back : List FieldReferences) → IsTrue (each_field (λ other. not (is_same field other)) prefix)
    → find (is_of field) (slots_of (prefix ++ back)) ≡ find (is_of field) (slots_of back)
unfolding slots_of
after_fields field [] back differ = refl
after_fields field (held ∷ prefix) back differ =
    let both = and_parts (not (is_same field held.field)) (each_field (λ other. not (is_same field other)) prefix) differ in
    after_field field held.field 0 held.references (slots_of (prefix ++ back)) (not-true (is_same field held.field) both.0)
    ∙ after_fields field prefix back both.1

-- no common part has a first or a last entity of a block
first_after_common : (common : Common) → IsTrue (each_field (λ other. not (is_same fields.First other)) (held_by_common common))
unfolding held_by_common held_by_entity held_by_object field_number
first_after_common (commons.Entity common) = refl
first_after_common (commons.Object common) = refl

last_after_common : (common : Common) → IsTrue (each_field (λ other. not (is_same fields.Last other)) (held_by_common common))
unfolding held_by_common held_by_entity held_by_object field_number
last_after_common (commons.Entity common) = refl
last_after_common (commons.Object common) = refl

-- the first end
pub first_end : (handles : List ℕ) (number handle : ℕ) (common : Common) (header : BlockHeader) (ends : Ends) → header.ends ≡ Some ends
    → place_of handles fields.First (slots (TypedValue number handle common (bodies.BlockHeader header))) ≡ place_in handles ends.first.target
unfolding slots held_by_body slots_of slots_from field_number
first_end handles number handle common header ends is =
    let here : find (is_of fields.First) (slots_of (held_by_body (bodies.BlockHeader header))) ≡ Some (record { field = fields.First; position = 0; target = ends.first.target }) = rw is refl in
    ap (option_and_then (λ (slot : Slot). place_in handles slot.target))
    (after_fields fields.First (held_by_common common) (held_by_body (bodies.BlockHeader header)) (first_after_common common) ∙ here)

-- the last end
pub last_end : (handles : List ℕ) (number handle : ℕ) (common : Common) (header : BlockHeader) (ends : Ends) → header.ends ≡ Some ends
    → place_of handles fields.Last (slots (TypedValue number handle common (bodies.BlockHeader header))) ≡ place_in handles ends.last.target
unfolding slots held_by_body slots_of slots_from field_number
last_end handles number handle common header ends is =
    let here : find (is_of fields.Last) (slots_of (held_by_body (bodies.BlockHeader header))) ≡ Some (record { field = fields.Last; position = 0; target = ends.last.target }) = rw is refl in
    ap (option_and_then (λ (slot : Slot). place_in handles slot.target))
    (after_fields fields.Last (held_by_common common) (held_by_body (bodies.BlockHeader header)) (last_after_common common) ∙ here)

-- the ends of a block that names some
pub ends_known : (number handle : ℕ) (common : Common) (header : BlockHeader) (ends : Ends) → header.ends ≡ Some ends → ends_of (TypedValue number handle common (bodies.BlockHeader header)) ≡ known_ends ends
unfolding ends_of
ends_known number handle common header ends is = ap (option_and_then known_ends) is
