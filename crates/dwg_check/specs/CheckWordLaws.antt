-- What holds of every check word: its range, runs that are joined, and words that are xored.
use Rattle.std.proofs.Common.{◌≡◌, ℕ, ◌^◌, ◌<◌, List, [], ◌∷◌, ◌++◌, length}
use Rattle.std.specs.Prelude.{bit_xor, replicate}
use Rattle.std.specs.Int.{bit_at}
use Rattle.dwg_check.specs.CheckWord.{turn, check_word}

-- the check word of no bytes is its start, and that of two runs joined is that of the second, begun as that of the first
abbrev pub CheckWordGoesOn : Type 0
CheckWordGoesOn =
    ((start : ℕ) → check_word start [] ≡ start)
    × ((start : ℕ) (a b : List ℕ) → check_word start (a ++ b) ≡ check_word (check_word start a) b)

-- a change of the start changes the check word by what becomes of the change over as many bytes 0
abbrev pub CheckWordIsLinear : Type 0
CheckWordIsLinear =
    (word change : ℕ) (bytes : List ℕ)
    → check_word (bit_xor word change) bytes ≡ bit_xor (check_word word bytes) (check_word change (replicate (length bytes) 0))

-- a check word of one byte, for the eight bits of the byte in turn, is eight turns
abbrev pub CheckWordOfByte : Type 0
CheckWordOfByte =
    (start byte : ℕ)
    → check_word start (byte ∷ [])
    ≡ turn (turn (turn (turn (turn (turn (turn (turn start (bit_at byte 0)) (bit_at byte 1)) (bit_at byte 2)) (bit_at byte 3)) (bit_at byte 4)) (bit_at byte 5)) (bit_at byte 6)) (bit_at byte 7)

-- 32,767 bytes 0 leave every word of 16 bits as it was
abbrev pub CheckWordIsPeriodic : Type 0
CheckWordIsPeriodic = (word : ℕ) → word < 2 ^ 16 → check_word word (replicate 32767 0) ≡ word

-- check words have 16 bits
abbrev pub CheckWordFits : Type 0
CheckWordFits = (start : ℕ) (bytes : List ℕ) → start < 2 ^ 16 → check_word start bytes < 2 ^ 16
