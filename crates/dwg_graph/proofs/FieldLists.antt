-- Lists of fields with their references: what holds of the fields holds of their slots.
use Rattle.std.proofs.Common.{◌≡◌, refl, sym, ap, ◌∙◌, subst, inl, inr, ⊎_elim, ℕ, suc, ◌+◌, ◌≤◌, Bool, true, List, [], ◌∷◌, ◌++◌, length, arith, length-append}
use Rattle.std.specs.Prelude.{◌&&◌, IsTrue, AllPairs, Contains, nat_le}
use Rattle.std.specs.List.{list_all}
use Rattle.std.proofs.lemmas.Bool.{and_from, and_parts, leb-true}
use Rattle.std.proofs.lemmas.List.Elements.{Contains-append_cases}
use Rattle.std.proofs.lemmas.List.Folds.{list_all-append}
use Rattle.dwg_graph.proofs.ListLemmas.{pairs_none, pairs_more, pairs_joined}
use Rattle.dwg_graph.proofs.Passing.{length_of_slots}
use Rattle.dwg_graph.specs.declared.slot.Slot.{Slot}
use Rattle.dwg_graph.specs.SlotLaws.{StandsBefore}
use Rattle.dwg_graph.specs.Slots.{FieldReferences, slots_from, slots_of}
use Rattle.dwg_grammar.specs.Reference.{Reference}
use Rattle.dwg_kinds.specs.declared.field.Field.{Field}
use Rattle.dwg_kinds.specs.Needs.{field_number}
use Rattle.dwg_chains.proofs.MemberLemmas.{contains_none, contains_cases}

-- a slot of a field, at a position or after it
record IsOf (field : Field) (at : ℕ) (slot : Slot) : Type 0 where
  same : slot.field ≡ field
  after : at ≤ slot.position

-- the slots of a field are of it
of_field : (field : Field) (at : ℕ) (references : List Reference) (slot : Slot) → Contains (slots_from field at references) slot → IsOf field at slot
unfolding slots_from
of_field field at [] slot there = absurd (contains_none slot there)
of_field field at (reference ∷ more) slot there = ⊎_elim
    (λ is. subst (λ (s : Slot). IsOf field at s) is (record { same = refl; after = omega arith }))
    (λ later. let is = of_field field (at + 1) more slot later in record { same = is.same; after = omega (arith, is.after) })
    (contains_cases (record { field = field; position = at; target = reference.target }) (slots_from field (at + 1) more) slot there)

-- and they ascend by their positions
positions_ascend : (field : Field) (at : ℕ) (references : List Reference) → AllPairs StandsBefore (slots_from field at references)
unfolding slots_from
positions_ascend field at [] = pairs_none StandsBefore
positions_ascend field at (reference ∷ more) =
    pairs_more StandsBefore (record { field = field; position = at; target = reference.target }) (slots_from field (at + 1) more)
    (λ slot there. let is = of_field field (at + 1) more slot there in inr (ap field_number (sym is.same), omega (arith, is.after)))
    (positions_ascend field (at + 1) more)

-- a slot of fields is one of the first field, or of those after it
slots_either : (P : Slot → Type 0) (held : FieldReferences) (more : List FieldReferences) (slot : Slot) → Contains (slots_of (held ∷ more)) slot
    → (slot.field ≡ held.field → P slot) → (Contains (slots_of more) slot → P slot) → P slot
unfolding slots_of
slots_either P held more slot inside first after = ⊎_elim
    (λ here. first (of_field held.field 0 held.references slot here).same)
    after
    (Contains-append_cases (slots_from held.field 0 held.references) (slots_of more) slot inside)

-- whether each of these fields passes a test
abbrev pub each_field : (Field → Bool) → List FieldReferences → Bool
each_field test all = list_all (λ held. test held.field) all

-- each of some and of more fields does
pub each_of_both : (test : Field → Bool) (some more : List FieldReferences) → IsTrue (each_field test some) → IsTrue (each_field test more) → IsTrue (each_field test (some ++ more))
each_of_both test some more here after = list_all-append (λ held. test held.field) some more ∙ and_from (each_field test some) (each_field test more) here after

-- so does the field of each slot
pub slots_pass : (test : Field → Bool) (all : List FieldReferences) → IsTrue (each_field test all) → (slot : Slot) → Contains (slots_of all) slot → IsTrue (test slot.field)
unfolding slots_of
slots_pass test [] passes slot inside = absurd (contains_none slot inside)
slots_pass test (held ∷ more) passes slot inside =
    let both = and_parts (test held.field) (each_field test more) passes in
    slots_either (λ s. IsTrue (test s.field)) held more slot inside
    (λ same. subst (λ (field : Field). IsTrue (test field)) (sym same) both.0)
    (slots_pass test more both.1 slot)

-- whether the numbers of these fields ascend strictly, from a number on
abbrev pub ascend_from : ℕ → List FieldReferences → Bool
ascend_from least [] = true
ascend_from least (held ∷ more) = nat_le least (field_number held.field) && ascend_from (suc (field_number held.field)) more

-- so all slots are of fields that have this number or a higher one
slots_above : (least : ℕ) (all : List FieldReferences) → IsTrue (ascend_from least all) → (slot : Slot) → Contains (slots_of all) slot → least ≤ field_number slot.field
unfolding slots_of
slots_above least [] ascend slot inside = absurd (contains_none slot inside)
slots_above least (held ∷ more) ascend slot inside =
    let both = and_parts (nat_le least (field_number held.field)) (ascend_from (suc (field_number held.field)) more) ascend in
    let first : least ≤ field_number held.field = leb-true least (field_number held.field) both.0 in
    slots_either (λ s. least ≤ field_number s.field) held more slot inside
    (λ same. omega (arith, first, ap field_number same))
    (λ after. omega (arith, first, slots_above (suc (field_number held.field)) more both.1 slot after))

-- and they ascend
pub slots_ascend : (least : ℕ) (all : List FieldReferences) → IsTrue (ascend_from least all) → AllPairs StandsBefore (slots_of all)
unfolding slots_of
slots_ascend least [] ascend = pairs_none StandsBefore
slots_ascend least (held ∷ more) ascend =
    let both = and_parts (nat_le least (field_number held.field)) (ascend_from (suc (field_number held.field)) more) ascend in
    pairs_joined StandsBefore (slots_from held.field 0 held.references) (slots_of more)
    (positions_ascend held.field 0 held.references)
    (slots_ascend (suc (field_number held.field)) more both.1)
    (λ one other here after. inl (omega (
      arith,
      ap field_number (of_field held.field 0 held.references one here).same,
      slots_above (suc (field_number held.field)) more both.1 other after,
    )))

-- how many references these fields have
abbrev pub count_of : List FieldReferences → ℕ
count_of [] = 0
count_of (held ∷ more) = length held.references + count_of more

-- so many slots are theirs
pub slots_counted : (all : List FieldReferences) → length (slots_of all) ≡ count_of all
unfolding slots_of
slots_counted [] = refl
slots_counted (held ∷ more) =
    omega (
      arith,
      length-append (slots_from held.field 0 held.references) (slots_of more),
      length_of_slots held.field 0 held.references,
      slots_counted more,
    )
