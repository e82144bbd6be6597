-- Parts of a list of bytes from any bit to any bit, and what is left for a cursor. A rule of this project.
use Rattle.std.specs.Prelude.{ℕ, ◌-◌, Bool, List, take, drop}
use Rattle.dwg_bits.specs.Bits.{bits}
use Rattle.dwg_bits.specs.declared.cursor.BitCursor.{BitCursor}

-- the bits of the bytes from one bit place to another
unfoldable pub bits_between : List ℕ → ℕ → ℕ → List Bool
bits_between bytes from to = take (to - from) (drop from (bits bytes))

-- the bits that are left for a cursor
abbrev pub rest : BitCursor → List Bool
rest cursor = bits_between cursor.bytes.now cursor.place cursor.end
