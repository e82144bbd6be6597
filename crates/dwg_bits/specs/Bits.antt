-- Bits of bytes and of numbers: the most significant bit of a byte stands first (Open Design Specification, "Bit codes").
use Rattle.std.specs.Prelude.{ℕ, zero, suc, ◌+◌, ◌^◌, Bool, List, [], ◌∷◌, length, flat_map, ◌==◌, if◌then◌else◌}
use Rattle.std.specs.Int.{bit_at}

-- whether the bit of this weight's exponent is set in a number
abbrev pub is_set : ℕ → ℕ → Bool
is_set value exponent = bit_at value exponent == 1

-- the low bits of a number, so many, the highest of them first
unfoldable pub low_bits : ℕ → ℕ → List Bool
low_bits zero value = []
low_bits (suc count) value = is_set value count ∷ low_bits count value

-- the bits of a list of bytes
unfoldable pub bits : List ℕ → List Bool
bits bytes = flat_map (low_bits 8) bytes

-- the number that bits spell, the first of them highest
unfoldable pub num : List Bool → ℕ
num [] = 0
num (bit ∷ rest) = (if bit then 2 ^ length rest else 0) + num rest
