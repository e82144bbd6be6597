-- Objects, whoever holds their bits and bytes. A rule of this project.
use Rattle.std.specs.Prelude.{⊤, ℕ, Bool, true, false, List}
use Rattle.dwg_bits.specs.Parts.{part_bits}
use Rattle.dwg_bits.specs.declared.part.BitPart.{BitPart}
use Rattle.dwg_bits.specs.declared.part.BitPart.TheVariants as bit_parts
use Rattle.dwg_codes.specs.Parts.{part_bytes}
use Rattle.dwg_codes.specs.declared.byte_part.BytePart.{BytePart}
use Rattle.dwg_codes.specs.declared.byte_part.BytePart.TheVariants.{Owned, Lent}
use Rattle.dwg_grammar.specs.Reference.{Reference}
use Rattle.dwg_kinds.specs.Kinds.{kind_at}
use Rattle.dwg_kinds.specs.declared.kind.Kind.{Kind}
use Rattle.dwg_kinds.specs.declared.number.ClassHint.{ClassHint}
use Rattle.dwg_kinds.specs.declared.number.ClassHint.TheVariants as hints
use Rattle.dwg_object.specs.declared.body.Body.{Body}
use Rattle.dwg_object.specs.declared.common.Common.{Common}
use Rattle.dwg_object.specs.declared.common.Common.TheVariants.{Entity, Object}
use Rattle.dwg_object.specs.declared.head.Head.{Head}
use Rattle.dwg_object.specs.declared.object.Object as declared
use Rattle.dwg_object.specs.declared.object.Object.TheVariants as objects
use Rattle.dwg_object.specs.OwnBodies.{body_kind}

-- what the head of an object says: its type number, how many bits the body has before its references, and its own handle
pub record HeadParts : Type 0 where
  pub number : ℕ
  pub size : ℕ
  pub own : ℕ

-- the plain value of a head in hand
abbrev pub parts_of : Head → HeadParts
parts_of head = record { number = head.number; size = head.size; own = head.own }

-- an object as a plain value
pub data ObjectValue : Type 0 where
  -- the type number, the own handle, the common part, and what its kind has of its own
  TypedValue : (number handle : ℕ) (common : Common) (body : Body) → ObjectValue
  -- the type number, the own handle, the common part, the bits between it and the references, and the references after those of the common part
  PlainValue : (number handle : ℕ) (common : Common) (rest : List Bool) (refs : List Reference) → ObjectValue
  -- the type number, the own handle, and the bytes of the body
  RawValue : (number handle : ℕ) (bytes : List ℕ) → ObjectValue

-- the plain value of an object in hand
abbrev pub value_of : declared.Object → ObjectValue
value_of (objects.Typed typed) = TypedValue typed.number typed.handle typed.common typed.body
value_of (objects.Plain plain) = PlainValue plain.number plain.handle plain.common (part_bits plain.rest) plain.refs
value_of (objects.Raw raw) = RawValue raw.number raw.handle (part_bytes raw.bytes)

-- the own handle of an object
abbrev pub handle_of : ObjectValue → ℕ
handle_of (TypedValue number handle common body) = handle
handle_of (PlainValue number handle common rest refs) = handle
handle_of (RawValue number handle bytes) = handle

-- the type number of an object
abbrev pub number_of : ObjectValue → ℕ
number_of (TypedValue number handle common body) = number
number_of (PlainValue number handle common rest refs) = number
number_of (RawValue number handle bytes) = number

-- whether a common part is that of an entity
abbrev pub is_of_entity : Common → Bool
is_of_entity (Entity common) = true
is_of_entity (Object common) = false

-- what a common part says of its object, as a class would
abbrev pub hint_of_common : Common → ClassHint
hint_of_common (Entity common) = hints.Entity
hint_of_common (Object common) = hints.Object

-- the kind of an object: that of its body; without one that of its number, where from 500 on its common part says whether it is an entity
abbrev pub kind_of : ObjectValue → Kind
kind_of (TypedValue number handle common body) = body_kind body
kind_of (PlainValue number handle common rest refs) = kind_at number (hint_of_common common)
kind_of (RawValue number handle bytes) = kind_at number hints.Absent

-- bits and bytes that are lent and not owned
abbrev pub AreLentBits : BitPart → Type 0
AreLentBits (bit_parts.Owned run) = ⊥
AreLentBits (bit_parts.Lent span) = ⊤

abbrev pub IsLentPart : BytePart → Type 0
IsLentPart (Owned run) = ⊥
IsLentPart (Lent slice) = ⊤

-- an object whose free bits, where it is Plain, or whose bytes, where it is Raw, are lent
abbrev pub IsBorrowedObject : declared.Object → Type 0
IsBorrowedObject (objects.Typed typed) = ⊤
IsBorrowedObject (objects.Plain plain) = AreLentBits plain.rest
IsBorrowedObject (objects.Raw raw) = IsLentPart raw.bytes
