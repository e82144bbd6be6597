-- How objects are written, and which of them can be written and read again. Which spelling is written is a rule of this project.
use Rattle.std.specs.Prelude.{◌≡◌, ◌≢◌, ℕ, ◌+◌, ◌^◌, ◌<◌, Bool, List, ◌++◌, length}
use Rattle.dwg_base.specs.Bytes.{AreBytes}
use Rattle.dwg_base.specs.declared.version.Version.{Version}
use Rattle.dwg_base.specs.declared.version.Version.TheVariants.{Ac1015}
use Rattle.dwg_bits.specs.Bits.{bits}
use Rattle.dwg_bits.specs.Sink.{padding}
use Rattle.dwg_bits.specs.WholeBytes.{whole_bytes}
use Rattle.dwg_common.specs.declared.bit_layout.Layout.{Layout}
use Rattle.dwg_classes.specs.declared.class.Class.{Class}
use Rattle.dwg_grammar.specs.ToEnd.{AreValues, short_all}
use Rattle.dwg_grammar.specs.Reference.{Reference}
use Rattle.dwg_grammar.specs.ReferenceCodes.{reference}
use Rattle.dwg_kinds.specs.Kinds.{is_entity_kind}
use Rattle.dwg_kinds.specs.declared.kind.Kind.TheVariants.{Unknown}
use Rattle.dwg_object.specs.declared.common.Common.{Common}
use Rattle.dwg_object.specs.declared.body.Body.{Body}
use Rattle.dwg_object.specs.Objects.{HeadParts, ObjectValue, TypedValue, PlainValue, RawValue, is_of_entity}
use Rattle.dwg_object.specs.OwnBodies.{body_kind, own_body}
use Rattle.dwg_object.specs.Forms.{HasTypedForm, HasPlainForm, kind_under, common_part, layout_in}
use Rattle.dwg_object.specs.Heads.{head, size_given, BeginsWithHead}

-- the bits of a common part as they are written in a layout: before the references, and among them
abbrev pub common_main : Layout → ℕ → Common → List Bool
common_main layout handle common = (common_part layout (is_of_entity common) handle).short_main common

abbrev pub common_refs : Layout → ℕ → Common → List Bool
common_refs layout handle common = (common_part layout (is_of_entity common) handle).short_references common

-- the bit size of an object as it is written, after whose head so many bits stand before the references: it counts both, and a head has as many bits whatever its bit size
unfoldable pub written_size : Version → ℕ → ℕ → ℕ → ℕ
written_size version number handle after = length ((head version).short (record { number = number; size = 0; own = handle })) + after

-- that of an object with this common part and these own bits: a common part has as many bits whatever the bit size
abbrev pub main_size : Version → ℕ → ℕ → Common → List Bool → ℕ
main_size version number handle common own = written_size version number handle (length (common_main (layout_in version 0) handle common ++ own))

-- the head of an object as it is written
abbrev pub written_head : Version → ℕ → ℕ → ℕ → HeadParts
written_head version number handle size = record { number = number; size = size_given version size; own = handle }

-- the bits of an object as they are written before the references with a bit size: head, common part, its own bits
abbrev pub sized_main : Version → ℕ → ℕ → ℕ → Common → List Bool → List Bool
sized_main version size number handle common own =
    (head version).short (written_head version number handle size) ++ (common_main (layout_in version size) handle common ++ own)

-- with theirs
unfoldable pub prefix_bits : Version → ℕ → ℕ → Common → List Bool → List Bool
prefix_bits version number handle common own = sized_main version (main_size version number handle common own) number handle common own

-- its references as they are written: those of the common part, and its own
unfoldable pub refs_bits : Version → ℕ → Common → List Bool → List Bool
refs_bits version handle common own_refs = common_refs (layout_in version 0) handle common ++ own_refs

-- and both
abbrev pub object_bits : Version → ℕ → ℕ → Common → List Bool → List Bool → List Bool
object_bits version number handle common own own_refs = prefix_bits version number handle common own ++ refs_bits version handle common own_refs

-- with zero bits up to a whole byte
abbrev pub object_bytes : Version → ℕ → ℕ → Common → List Bool → List Bool → List ℕ
object_bytes version number handle common own own_refs =
    whole_bytes (object_bits version number handle common own own_refs ++ padding (object_bits version number handle common own own_refs))

-- the own bits and the own references of what a kind has of its own, as they are written
abbrev pub own_main : Version → ℕ → Body → List Bool
own_main version handle value = (own_body version (body_kind value) handle).short_main value

abbrev pub own_refs : Version → ℕ → Body → List Bool
own_refs version handle value = (own_body version (body_kind value) handle).short_references value

-- the bytes of an object's body as they are written: by its parts, or those that were kept
abbrev pub body_bytes : Version → ObjectValue → List ℕ
body_bytes version (TypedValue number handle common value) = object_bytes version number handle common (own_main version handle value) (own_refs version handle value)
body_bytes version (PlainValue number handle common rest refs) = object_bytes version number handle common rest (short_all (reference handle) refs)
body_bytes version (RawValue number handle bytes) = bytes

-- the handle of an object isn't null, and its parts are those that its form can spell in a version
abbrev pub PartsFit : Version → ObjectValue → Type 0
PartsFit version (TypedValue number handle common value) =
    (0 < handle) × (common_part (layout_in version 0) (is_of_entity common) handle).Fits common × (own_body version (body_kind value) handle).Fits value
PartsFit version (PlainValue number handle common rest refs) =
    (0 < handle) × (common_part (layout_in version 0) (is_of_entity common) handle).Fits common × AreValues (reference handle) refs
PartsFit version (RawValue number handle bytes) = 0 < handle

-- its parts fit in AC1015, and a Typed one has an entity's common part exactly where its body's kind is one
abbrev pub IsWhole : ObjectValue → Type 0
IsWhole (TypedValue number handle common value) = PartsFit Ac1015 (TypedValue number handle common value) × (is_of_entity common ≡ is_entity_kind (body_kind value))
IsWhole (PlainValue number handle common rest refs) = PartsFit Ac1015 (PlainValue number handle common rest refs)
IsWhole (RawValue number handle bytes) = PartsFit Ac1015 (RawValue number handle bytes)

-- a Typed object that a drawing of a version with these classes can have: it is of the kind of its number
pub record IsValidTyped (version : Version) (classes : List Class) (number handle : ℕ) (common : Common) (value : Body) : Type 0 where
  pub whole : IsWhole (TypedValue number handle common value)
  pub fits : PartsFit version (TypedValue number handle common value)
  pub number_fits : number < 2 ^ 16
  pub handle_fits : handle < 2 ^ 63
  pub kind : kind_under classes number ≡ body_kind value

-- a Plain object that a drawing of a version with these classes can have: its kind is known, and is an entity's exactly where its common part is; as it is written it has no stronger form
pub record IsValidPlain (version : Version) (classes : List Class) (number handle : ℕ) (common : Common) (rest : List Bool) (refs : List Reference) : Type 0 where
  pub whole : IsWhole (PlainValue number handle common rest refs)
  pub fits : PartsFit version (PlainValue number handle common rest refs)
  pub number_fits : number < 2 ^ 16
  pub handle_fits : handle < 2 ^ 63
  pub known : kind_under classes number ≢ Unknown
  pub entity : is_of_entity common ≡ is_entity_kind (kind_under classes number)
  pub untyped : HasTypedForm version classes (body_bytes version (PlainValue number handle common rest refs)) → ⊥

-- a Raw object that a drawing of a version with these classes can have: its bytes have a head with its number and its handle, and no stronger form
pub record IsValidRaw (version : Version) (classes : List Class) (number handle : ℕ) (bytes : List ℕ) : Type 0 where
  pub whole : IsWhole (RawValue number handle bytes)
  pub are : AreBytes bytes
  pub begins : BeginsWithHead version (bits bytes) number handle
  pub unplain : HasPlainForm version classes bytes → ⊥
  pub untyped : HasTypedForm version classes bytes → ⊥

-- an object that a drawing of a version with these classes can have: it can be written and is read again, by fewer than 2^29 bytes of a body
abbrev pub IsValidObject : Version → List Class → ObjectValue → Type 0
IsValidObject version classes (TypedValue number handle common value) =
    IsValidTyped version classes number handle common value × (length (body_bytes version (TypedValue number handle common value)) < 2 ^ 29)
IsValidObject version classes (PlainValue number handle common rest refs) =
    IsValidPlain version classes number handle common rest refs × (length (body_bytes version (PlainValue number handle common rest refs)) < 2 ^ 29)
IsValidObject version classes (RawValue number handle bytes) = IsValidRaw version classes number handle bytes × (length bytes < 2 ^ 29)
