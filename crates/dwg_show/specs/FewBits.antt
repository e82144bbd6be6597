-- Objects of which few enough own bits are kept to be counted and padded. A rule of this project.
use Rattle.std.specs.Prelude.{⊤, ◌^◌, ◌<◌, length}
use Rattle.dwg_object.specs.Objects.{ObjectValue, TypedValue, PlainValue, RawValue}

-- fewer than 2^32 bits, as those of every drawing
abbrev pub HasFewBits : ObjectValue → Type 0
HasFewBits (TypedValue _ _ _ _) = ⊤
HasFewBits (PlainValue _ _ _ rest _) = length rest < 2 ^ 32
HasFewBits (RawValue _ _ _) = ⊤
