-- Two kinds are one where their places or their names are, and two fields where their numbers or names are: each has a row, and is found again by what its row reports.
-- Whether two kinds are one is cited by dwg_graph.
use Rattle.std.proofs.Common.{◌≡◌, refl, sym, ◌∙◌, ap, ℕ, List, [], subst, arith}
use Rattle.std.specs.Prelude.{◌+◌, ◌==◌, ◌↔◌, IsTrue, find, unwrap_or, get_or}
use Rattle.std.specs.Str.{bytes_eq}
use Rattle.std.proofs.lemmas.Bool.Decides.{nat_tests}
use denote.Enum.Declared.{tag_of}
use Rattle.dwg_kinds.specs.contracts.field.Field.{the_type}
use Rattle.dwg_kinds.specs.declared.kind.Kind.{Kind}
use Rattle.dwg_kinds.specs.declared.kind.Kind.TheVariants as kinds
use Rattle.dwg_kinds.specs.declared.field.Field.{Field}
use Rattle.dwg_kinds.specs.declared.field.Field.TheVariants as fields
use Rattle.dwg_kinds.specs.Kinds.{KIND_ROWS, UNKNOWN, place_of_kind, kind_name, same_kind}
use Rattle.dwg_kinds.specs.Needs.{FieldRow, FIELD_ROWS, field_number, field_name}

-- the kind at a place
abbrev placed : ℕ → Kind
placed place = (get_or KIND_ROWS place UNKNOWN).kind

-- the kind at its place is the kind itself, so the row of each kind is its own
placed_again : (kind : Kind) → placed (place_of_kind kind) ≡ kind
placed_again kinds.Text = refl
placed_again kind = refl

-- two kinds are one exactly where the test says so
pub same_kinds : (kind other : Kind) → IsTrue (same_kind kind other) ↔ (kind ≡ other)
unfolding same_kind
same_kinds kind other = (
  λ same. let places : place_of_kind kind ≡ place_of_kind other = grind (arith, nat_tests, same) in sym (placed_again kind) ∙ (ap placed places ∙ placed_again other),
  λ same. subst (λ (o : Kind). IsTrue (same_kind kind o)) same (grind (arith, nat_tests)),
)

-- the first kind of a name
abbrev named : List ℕ → Kind
named name = (unwrap_or (find (λ row. bytes_eq row.name name) KIND_ROWS) UNKNOWN).kind

-- the first kind of its name is the kind itself
named_again : (kind : Kind) → named (kind_name kind) ≡ kind
unfolding kind_name
named_again kinds.Text = refl
named_again kind = refl

-- no two kinds have one name
pub names_differ : (kind other : Kind) → kind_name kind ≡ kind_name other → kind ≡ other
names_differ kind other same = sym (named_again kind) ∙ (ap named same ∙ named_again other)

-- no field at all
abbrev NO_FIELD : FieldRow
NO_FIELD = record { number = 0; field = fields.Application; name = [] }

-- the first field of a number
abbrev numbered : ℕ → Field
numbered number = (unwrap_or (find (λ row. row.number == number) FIELD_ROWS) NO_FIELD).field

-- the first field of its number is the field itself
numbered_again : (field : Field) → numbered (field_number field) ≡ field
unfolding field_number
numbered_again fields.Application = refl
numbered_again field = refl

-- fields are numbered in the order in which they are declared, from 1 on
pub numbered_in_order : (field : Field) → field_number field ≡ tag_of the_type field + 1
unfolding field_number
numbered_in_order fields.Application = refl
numbered_in_order field = refl

-- two fields of one number are one
pub numbers_differ : (field other : Field) → field_number field ≡ field_number other → field ≡ other
numbers_differ field other same = sym (numbered_again field) ∙ (ap numbered same ∙ numbered_again other)

-- the first field of a name
abbrev titled : List ℕ → Field
titled name = (unwrap_or (find (λ row. bytes_eq row.name name) FIELD_ROWS) NO_FIELD).field

-- the first field of its name is the field itself
titled_again : (field : Field) → titled (field_name field) ≡ field
unfolding field_name
titled_again fields.Application = refl
titled_again field = refl

-- no two fields have one name
pub words_differ : (field other : Field) → field_name field ≡ field_name other → field ≡ other
words_differ field other same = sym (titled_again field) ∙ (ap titled same ∙ titled_again other)
