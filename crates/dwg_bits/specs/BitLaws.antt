-- What holds of bits: the bits of numbers, of bytes and of parts of them, and the numbers that they spell.
use Rattle.std.proofs.Common.{◌≡◌, ℕ, ◌+◌, ◌-◌, ◌*◌, ◌/◌, ◌%◌, ◌^◌, ◌<◌, ◌≤◌, Bool, List, ◌++◌, length}
use Rattle.dwg_base.specs.Bytes.{AreBytes}
use Rattle.dwg_bits.specs.Bits.{low_bits, bits, num}
use Rattle.dwg_bits.specs.Cursor.{bits_between}

-- the low bits of a number that has no more spell it
abbrev pub LowBitsSpell : Type 0
LowBitsSpell = (count value : ℕ) → value < 2 ^ count → num (low_bits count value) ≡ value

-- the low bits of the number that bits spell are these bits
abbrev pub NumberIsSpelled : Type 0
NumberIsSpelled = (s : List Bool) → low_bits (length s) (num s) ≡ s

-- so many bits spell a number below that power of two
abbrev pub NumberFits : Type 0
NumberFits = (s : List Bool) → num s < 2 ^ length s

-- the low bits of a number are as many as asked
abbrev pub LowBitsAreCounted : Type 0
LowBitsAreCounted = (count value : ℕ) → length (low_bits count value) ≡ count

-- each byte has eight bits
abbrev pub BytesHaveEightBits : Type 0
BytesHaveEightBits = (bytes : List ℕ) → length (bits bytes) ≡ 8 * length bytes

-- the bits of joined bytes are joined
abbrev pub BitsAreJoined : Type 0
BitsAreJoined = (a b : List ℕ) → bits (a ++ b) ≡ bits a ++ bits b

-- bytes with the same bits are the same
abbrev pub BitsGiveBytes : Type 0
BitsGiveBytes = (a b : List ℕ) → AreBytes a → AreBytes b → bits a ≡ bits b → a ≡ b

-- the low bits of a number are those of its quotient, and then those of its remainder
abbrev pub LowBitsSplit : Type 0
LowBitsSplit = (a b value : ℕ) → low_bits (a + b) value ≡ low_bits a (value / 2 ^ b) ++ low_bits b (value % 2 ^ b)

-- joined bits spell the first number, moved up, and the second
abbrev pub NumbersAreJoined : Type 0
NumbersAreJoined = (s t : List Bool) → num (s ++ t) ≡ num s * 2 ^ length t + num t

-- the bits between two places are as many as the places are apart
abbrev pub BetweenIsCounted : Type 0
BetweenIsCounted = (bytes : List ℕ) (from to : ℕ) → to ≤ 8 * length bytes → length (bits_between bytes from to) ≡ to - from

-- the bits between two places are those up to a third, and those from there on
abbrev pub BetweenIsJoined : Type 0
BetweenIsJoined = (bytes : List ℕ) (from mid to : ℕ) → from ≤ mid → mid ≤ to → bits_between bytes from mid ++ bits_between bytes mid to ≡ bits_between bytes from to
