-- Modular chars and modular shorts over bytes (Open Design Specification, "Bit codes"): groups of value bits, the low group first, where the highest bit of a group says that another follows. The bounds of ten bytes and four units, and which spelling is written, are rules of this project.
use Rattle.std.specs.Prelude.{ℕ, zero, suc, ℤ, pos, negsuc, ◌+◌, ◌-◌, ◌*◌, ◌/◌, ◌%◌, ◌<◌, ◌^◌, ◌≡◌, Bool, true, false, nat_lt, if◌then◌else◌}
use Rattle.std.specs.Int.{w16, from_le_bytes, to_le_bytes}
use Rattle.dwg_grammar.specs.Grammar.{Grammar}
use Rattle.dwg_grammar.specs.Combinators.{one_byte, always, never, tagged, choose, image, restrict, items}

-- a number after a group: the group's value bits, and the number that follows as what is above them
abbrev pub after_group : ℕ → ℕ → Grammar ℕ ℕ → Grammar ℕ ℕ
after_group weight low code = image (λ value. (value % weight ≡ low) × code.IsValue (value / weight)) (λ high. low + weight * high) (λ value. value / weight) code

-- MC in at most so many bytes of 7 value bits each
unfoldable pub mc_within : ℕ → Grammar ℕ ℕ
mc_within zero = never
mc_within (suc more) = tagged one_byte (λ byte. choose (nat_lt byte 128) (always byte) (after_group 128 (byte - 128) (mc_within more)))
    (λ value. value < 128 ^ suc more) (λ value. if nat_lt value 128 then value else 128 + value % 128)

-- MC: 1 to 10 bytes, a value below 2^63
abbrev pub mc : Grammar ℕ ℕ
mc = restrict (λ value. nat_lt value (2 ^ 63)) (mc_within 10)

-- whether a number is negative, and its magnitude
abbrev pub Signed : Type 0
Signed = Bool × ℕ

-- what the last byte of a signed MC says: 64 of its weight is the sign, and six bits are the value's
abbrev pub last_of : ℕ → Signed
last_of byte = (nat_lt 63 byte, byte % 64)

-- signed MC in at most so many bytes: the last has 6 value bits and the sign
unfoldable pub signed_mc_within : ℕ → Grammar ℕ Signed
signed_mc_within zero = never
signed_mc_within (suc more) = tagged one_byte
    (λ byte. choose (nat_lt byte 128) (always (last_of byte))
    (image (λ value. (value.1 % 128 ≡ byte - 128) × (signed_mc_within more).IsValue (value.0, value.1 / 128))
    (λ high. (high.0, byte - 128 + 128 * high.1)) (λ value. (value.0, value.1 / 128)) (signed_mc_within more)))
    (λ value. value.1 < 64 * 128 ^ more)
    (λ value. if nat_lt value.1 64 then (if value.0 then 64 + value.1 else value.1) else 128 + value.1 % 128)

-- the number of a sign and a magnitude; a negative zero is 0
abbrev pub signed_number : Signed → ℤ
signed_number (false, magnitude) = pos magnitude
signed_number (true, zero) = pos 0
signed_number (true, suc less) = negsuc less

-- the sign and the magnitude by which a number is written
abbrev pub sign_and_magnitude : ℤ → Signed
sign_and_magnitude (pos magnitude) = (false, magnitude)
sign_and_magnitude (negsuc less) = (true, suc less)

-- signed MC: 1 to 10 bytes, a magnitude below 2^63
abbrev pub signed_mc : Grammar ℕ ℤ
signed_mc = image (λ value. (sign_and_magnitude value).1 < 2 ^ 63) signed_number sign_and_magnitude
    (restrict (λ value. nat_lt value.1 (2 ^ 63)) (signed_mc_within 10))

-- a unit of two bytes, the low one first
abbrev pub unit : Grammar ℕ ℕ
unit = image (λ value. value < 2 ^ 16) (from_le_bytes w16) (to_le_bytes w16) (items one_byte 2)

-- MS in at most so many units of 15 value bits each
unfoldable pub ms_within : ℕ → Grammar ℕ ℕ
ms_within zero = never
ms_within (suc more) = tagged unit (λ group. choose (nat_lt group 32768) (always group) (after_group 32768 (group - 32768) (ms_within more)))
    (λ value. value < 32768 ^ suc more) (λ value. if nat_lt value 32768 then value else 32768 + value % 32768)

-- MS: 1 to 4 units
abbrev pub ms : Grammar ℕ ℕ
ms = ms_within 4
