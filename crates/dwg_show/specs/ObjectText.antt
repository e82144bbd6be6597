-- The text of an object. A rule of this project.
use Rattle.std.specs.Prelude.{ℕ, List, [], ◌++◌, codes, decimal, length}
use Rattle.dwg_bits.specs.Sink.{padding}
use Rattle.dwg_bits.specs.WholeBytes.{whole_bytes}
use Rattle.dwg_kinds.specs.Kinds.{kind_name}
use Rattle.dwg_object.specs.Objects.{ObjectValue, TypedValue, PlainValue, RawValue, handle_of, number_of, kind_of}
use Rattle.dwg_object.specs.declared.common.Common.{Common}
use Rattle.dwg_object.specs.declared.common.Common.TheVariants as commons
use Rattle.dwg_text.specs.Lines.{line}
use Rattle.dwg_text.specs.Values.{upper_digits}
use Rattle.dwg_show.specs.Fields.{Printer, member, number, bytes, reference, listed}
use Rattle.dwg_show.specs.CommonFields.{entity_common_fields, object_common_fields}
use Rattle.dwg_show.specs.BodyFields.{body_fields}

-- the fields of a common part
unfoldable pub common_fields : Printer Common
common_fields path (commons.Entity common) = entity_common_fields path common
common_fields path (commons.Object common) = object_common_fields path common

-- the form of an object
abbrev pub form_word : ObjectValue → List ℕ
form_word (TypedValue _ _ _ _) = codes "typed"
form_word (PlainValue _ _ _ _ _) = codes "plain"
form_word (RawValue _ _ _) = codes "raw"

-- the line that an object begins with: its handle, the name of its kind, its form and its type number
unfoldable pub head_line : ObjectValue → List ℕ
head_line object =
    line (codes "object " ++ upper_digits (handle_of object) ++ codes " " ++ kind_name (kind_of object) ++ codes " " ++ form_word object
    ++ codes " " ++ decimal (number_of object))

-- the fields of an object: those of a Typed one's common part and of its body; a Plain one's common part, how many own bits it has, these with zero bits up to a whole byte, and its references; a Raw one's bytes
unfoldable pub object_fields : ObjectValue → List ℕ
object_fields (TypedValue _ _ common body) = common_fields [] common ++ body_fields [] body
object_fields (PlainValue _ _ common rest refs) =
    common_fields [] common ++ member [] (codes "bits") number (length rest) ++ member [] (codes "rest") bytes (whole_bytes (rest ++ padding rest))
    ++ member [] (codes "refs") (listed reference) refs
object_fields (RawValue _ _ body) = member [] (codes "bytes") bytes body

-- an object
unfoldable pub object_text : ObjectValue → List ℕ
object_text object = head_line object ++ object_fields object
