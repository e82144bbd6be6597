-- The check word of sections, map pages and object frames (Open Design Specification, "CRC"), bit by bit.
use Rattle.std.specs.Prelude.{ℕ, ◌/◌, ◌%◌, List, [], ◌∷◌, bit_xor, fold, flat_map, ◌==◌, if◌then◌else◌}
use Rattle.std.specs.Int.{bit_at}

-- what is added where the bit that leaves the word and the bit that comes differ: the reflected polynomial
abbrev pub POLYNOMIAL : ℕ
POLYNOMIAL = 0xA001

-- one bit turns the word: shifted right by one, and xored with the polynomial where the word's lowest bit and the bit differ
unfoldable pub turn : ℕ → ℕ → ℕ
turn word bit = if word % 2 == bit then word / 2 else bit_xor (word / 2) POLYNOMIAL

-- the eight bits of a byte, the least significant first
abbrev pub low_bits_first : ℕ → List ℕ
low_bits_first byte =
    bit_at byte 0 ∷ bit_at byte 1 ∷ bit_at byte 2 ∷ bit_at byte 3 ∷ bit_at byte 4 ∷ bit_at byte 5 ∷ bit_at byte 6 ∷ bit_at byte 7 ∷ []

-- the check word of the bytes that begins as start: each of their bits turns it, the least significant bit of each byte first
unfoldable pub check_word : ℕ → List ℕ → ℕ
check_word start bytes = fold turn start (flat_map low_bits_first bytes)

-- what the check words of sections, map pages and object frames begin as
abbrev pub CHECK_SEED : ℕ
CHECK_SEED = 0xC0C1

-- what the check word of a file header with so many locators is xored with
abbrev pub header_mask : ℕ → ℕ
header_mask count =
    if count == 3 then 0xA598
    else (if count == 4 then 0x8101
    else (if count == 5 then 0x3CC4
    else 0x8461))

-- the check word that a file header with so many locators carries, over all its bytes before it
unfoldable pub header_check_word : ℕ → List ℕ → ℕ
header_check_word count bytes = bit_xor (check_word 0 bytes) (header_mask count)
