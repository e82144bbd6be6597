-- Lists of bytes in hand: owned, or lent from a slice. A rule of this project.
use Rattle.std.specs.Prelude.{ℕ, List}
use Rattle.dwg_codes.specs.declared.byte_part.BytePart.{BytePart}
use Rattle.dwg_codes.specs.declared.byte_part.BytePart.TheVariants.{Owned, Lent}

-- the bytes of a part, whoever holds them
abbrev pub part_bytes : BytePart → List ℕ
part_bytes (Owned run) = run
part_bytes (Lent slice) = slice.now
