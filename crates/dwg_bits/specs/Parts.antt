-- Lists of bits in hand: owned, or lent from a slice of bytes. A rule of this project.
use Rattle.std.specs.Prelude.{Bool, List}
use Rattle.dwg_bits.specs.declared.part.BitPart.{BitPart}
use Rattle.dwg_bits.specs.declared.part.BitPart.TheVariants.{Owned, Lent}

-- the bits of a part, whoever holds them
abbrev pub part_bits : BitPart → List Bool
part_bits (Owned run) = run
part_bits (Lent span) = span
