-- The forms in which the body of an object is read (Open Design Specification, "R13 to R2000 file layout, object data"). Which form an object has is a rule of this project.
use Rattle.std.specs.Prelude.{◌≡◌, ◌≢◌, ℕ, ◌<◌, Bool, true, false, List, ◌++◌, length, Option, Some, None}
use Rattle.dwg_base.specs.declared.version.Version.{Version}
use Rattle.dwg_base.specs.declared.version.Version.TheVariants.{Ac1014, Ac1015}
use Rattle.dwg_common.specs.BitSizes.{SpellsSize}
use Rattle.dwg_common.specs.Layouts.{NEWER, older}
use Rattle.dwg_common.specs.declared.bit_layout.Layout.{Layout}
use Rattle.dwg_bits.specs.Bits.{bits}
use Rattle.dwg_classes.specs.declared.class.Class.{Class}
use Rattle.dwg_classes.specs.Hints.{hint_at}
use Rattle.dwg_grammar.specs.ToEnd.{SpellsAll}
use Rattle.dwg_common.specs.declared.entity.EntityCommon.{EntityCommon}
use Rattle.dwg_common.specs.declared.object.ObjectCommon.{ObjectCommon}
use Rattle.dwg_grammar.specs.Bodies.{BodyGrammar}
use Rattle.dwg_common.specs.Entities.{entity_common}
use Rattle.dwg_grammar.specs.MakingBodies.{variant}
use Rattle.dwg_common.specs.NonEntities.{object_common}
use Rattle.dwg_grammar.specs.Reference.{Reference}
use Rattle.dwg_grammar.specs.ReferenceCodes.{reference}
use Rattle.dwg_kinds.specs.Kinds.{kind_at, is_entity_kind}
use Rattle.dwg_kinds.specs.declared.kind.Kind.{Kind}
use Rattle.dwg_kinds.specs.declared.kind.Kind.TheVariants.{Unknown}
use Rattle.dwg_object.specs.declared.common.Common.{Common}
use Rattle.dwg_object.specs.declared.body.Body.{Body}
use Rattle.dwg_object.specs.declared.common.Common.TheVariants.{Entity, Object}
use Rattle.dwg_object.specs.Heads.{BeginsWithHead, head, size_given}
use Rattle.dwg_object.specs.Objects.{HeadParts, ObjectValue, TypedValue, PlainValue, RawValue}
use Rattle.dwg_object.specs.OwnBodies.{own_body}

-- the kind of a number under the classes of a drawing
abbrev pub kind_under : List Class → ℕ → Kind
kind_under classes number = kind_at number (hint_at classes number)

-- an entity's common part as it is held among common parts, and another object's
abbrev pub entity_inside : Common → Option EntityCommon
entity_inside (Entity common) = Some common
entity_inside (Object common) = None

abbrev pub object_inside : Common → Option ObjectCommon
object_inside (Entity common) = None
object_inside (Object common) = Some common

-- how the parts of an object are laid out in a version, with this bit size, which AC1014 alone spells in them
abbrev pub layout_in : Version → ℕ → Layout
layout_in Ac1014 size = older size
layout_in Ac1015 size = NEWER

-- how what a kind has of its own is laid out: no bit of it spells the bit size
abbrev pub layout_of : Version → Layout
layout_of version = record { version = version; size = 0 }

-- the common part of the object of a handle, which is an entity or isn't
abbrev pub common_part : Layout → Bool → ℕ → BodyGrammar Common
common_part layout true base = variant Entity entity_inside (entity_common layout base)
common_part layout false base = variant Object object_inside (object_common layout base)

-- the head of a body and the bits after it report the bit size: in AC1014 these do, in AC1015 the head does
abbrev pub HasSize : Version → Bool → HeadParts → ℕ → List Bool → Type 0
HasSize Ac1014 entity parts size after = SpellsSize entity parts.own size after
HasSize Ac1015 entity parts size after = size ≡ parts.size

-- what the forms that read a common part have in common: the head, the common part and the own bits before the references, together as many as the bit size says; the references of the common part, and the bits after them
pub record CommonForm (version : Version) (classes : List Class) (body : List ℕ) (number handle : ℕ) (common : Common) (own after : List Bool) : Type 0 where
  pub size : ℕ
  pub head_bits : List Bool
  pub common_main : List Bool
  pub common_refs : List Bool
  pub whole : bits body ≡ (head_bits ++ (common_main ++ own)) ++ (common_refs ++ after)
  pub head_spelled : (head version).Spells (record { number = number; size = size_given version size; own = handle }) head_bits
  pub common_spelled : (common_part (layout_in version size) (is_entity_kind (kind_under classes number)) handle).Spells common common_main common_refs (length after)
  pub filled : length (head_bits ++ (common_main ++ own)) ≡ size

-- a body has that
pub record HasCommonForm (version : Version) (classes : List Class) (body : List ℕ) : Type 0 where
  pub number : ℕ
  pub handle : ℕ
  pub common : Common
  pub own : List Bool
  pub after : List Bool
  pub form : CommonForm version classes body number handle common own after

-- the form of a body whose own bits and own references are those of its kind, after which fewer than eight bits are left
pub record TypedForm (version : Version) (classes : List Class) (body : List ℕ) (number handle : ℕ) (common : Common) (value : Body) : Type 0 where
  pub own : List Bool
  pub own_refs : List Bool
  pub left : List Bool
  pub form : CommonForm version classes body number handle common own (own_refs ++ left)
  pub own_spelled : (own_body version (kind_under classes number) handle).Spells value own own_refs (length left)
  pub few : length left < 8

-- a body has that form
pub record HasTypedForm (version : Version) (classes : List Class) (body : List ℕ) : Type 0 where
  pub number : ℕ
  pub handle : ℕ
  pub common : Common
  pub value : Body
  pub form : TypedForm version classes body number handle common value

-- the form of a body whose kind is known: its own bits are any, and after the references of the common part stand any number of others, until fewer than eight bits are left
pub record PlainForm (version : Version) (classes : List Class) (body : List ℕ) (number handle : ℕ) (common : Common) (rest : List Bool) (refs : List Reference) : Type 0 where
  pub known : kind_under classes number ≢ Unknown
  pub refs_bits : List Bool
  pub left : List Bool
  pub form : CommonForm version classes body number handle common rest (refs_bits ++ left)
  pub refs_spelled : SpellsAll (reference handle) refs refs_bits
  pub few : length left < 8

-- a body has that form
pub record HasPlainForm (version : Version) (classes : List Class) (body : List ℕ) : Type 0 where
  pub number : ℕ
  pub handle : ℕ
  pub common : Common
  pub rest : List Bool
  pub refs : List Reference
  pub form : PlainForm version classes body number handle common rest refs

-- the form of a body that every body with a head has: its bytes, under the number and the handle of the head
pub record RawForm (version : Version) (body : List ℕ) (number handle : ℕ) (bytes : List ℕ) : Type 0 where
  pub begins : BeginsWithHead version (bits body) number handle
  pub same : bytes ≡ body

-- the object that a body is read as in a version, under the classes of its drawing: in the first of these forms that it has
abbrev pub FormOf : Version → List Class → List ℕ → ObjectValue → Type 0
FormOf version classes body (TypedValue number handle common value) = TypedForm version classes body number handle common value
FormOf version classes body (PlainValue number handle common rest refs) = PlainForm version classes body number handle common rest refs × (HasTypedForm version classes body → ⊥)
FormOf version classes body (RawValue number handle bytes) = RawForm version body number handle bytes × (HasPlainForm version classes body → ⊥) × (HasTypedForm version classes body → ⊥)
