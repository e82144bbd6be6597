-- RC, RS, RL and RD are codes, and so is a number by so many bytes.
use Rattle.std.proofs.Common.{◌≡◌, refl, ℕ, zero, suc, ◌*◌, ◌^◌, ◌<◌, ◌≤◌, List, [], ◌∷◌, length, get_or, arith}
use Rattle.std.specs.Int.{w16, w32, w64, byte_at, byte_worth, bytes_low_first, sum_through, from_le_bytes, to_le_bytes}
use Rattle.std.proofs.Math.Nat.{pow-suc}
use Rattle.std.proofs.lemmas.List.{length-append}
use Rattle.std.proofs.lemmas.Nat.{le_bytes_2, le_bytes_4, le_bytes_8, from_le_bytes-to_le_bytes_2, from_le_bytes-to_le_bytes_4, from_le_bytes-to_le_bytes_8}
use Rattle.dwg_base.specs.Bytes.{AreBytes}
use Rattle.dwg_bits.proofs.BitLaws.{length_of_low_bits}
use Rattle.dwg_grammar.specs.Grammar.{Grammar, IsCode, AnyLetters}
use Rattle.dwg_grammar.proofs.CodeLemmas.{IsClosed}
use Rattle.dwg_grammar.specs.Combinators.{image, IsChain, short_chain, chain, items}
use Rattle.dwg_grammar.proofs.CombinatorLemmas.{any_letters_closed, fixed_is_code, struct_is_code}
use Rattle.dwg_grammar.proofs.ListLemmas.{items_is_code}
use Rattle.dwg_grammar.specs.Codes.{bb, rc, rs, rl, rd, word_bytes}

-- each byte of a list is below 256
pub byte_in : (bytes : List ℕ) → AreBytes bytes → (i : ℕ) → get_or bytes i 0 < 256
byte_in [] are i = omega arith
byte_in (byte ∷ bytes) are zero = are.0
byte_in (byte ∷ bytes) are (suc i) = byte_in bytes are.1 i

-- the bytes of a number are bytes
pub bytes_of_number : (i count value : ℕ) → AreBytes (bytes_low_first i count value)
bytes_of_number i zero value = tt
bytes_of_number i (suc count) value = (below i, bytes_of_number (suc i) count value)
  where
    below : (i : ℕ) → byte_at i value < 2 ^ 8
    below zero = omega arith
    below (suc i) = omega arith

-- bytes make a number of no more bytes
pub number_of_bytes : (f : ℕ → ℕ) → ((i : ℕ) → f i < 256) → (last : ℕ) → sum_through (λ i. byte_worth i (f i)) last < 256 ^ suc last
number_of_bytes f are zero = omega (arith, are 0)
number_of_bytes f are (suc last) =
    omega (arith, are (suc last), number_of_bytes f are last, pow-suc 256 (suc last), at_most (f (suc last)) (256 ^ suc last) (are (suc last)))
  where
    at_most : (byte weight : ℕ) → byte < 256 → byte * weight ≤ 255 * weight
    at_most byte weight h = grind arith

-- items of a code of bytes are bytes
pub bytes_of_items : {A : Type 0} (byte : Grammar A ℕ) → ((value : ℕ) → byte.IsValue value → value < 2 ^ 8)
    → (values : List ℕ) → IsChain (λ (state : ℕ). byte) (λ value. 0) 0 values → AreBytes values
bytes_of_items byte below [] fit = tt
bytes_of_items byte below (value ∷ values) fit = (below value fit.0, bytes_of_items byte below values fit.1)

-- and bytes are such items
pub items_of_bytes : {A : Type 0} (byte : Grammar A ℕ) → ((value : ℕ) → value < 2 ^ 8 → byte.IsValue value)
    → (values : List ℕ) → AreBytes values → IsChain (λ (state : ℕ). byte) (λ value. 0) 0 values
items_of_bytes byte fits [] are = tt
items_of_bytes byte fits (value ∷ values) are = (fits value are.0, items_of_bytes byte fits values are.1)

-- a number by so many bytes is a code
pub number_is_code : {A : Type 0} (IsText : List A → Type 0) (byte : Grammar A ℕ) (count limit : ℕ) (from : List ℕ → ℕ) (to : ℕ → List ℕ)
    → IsClosed IsText → IsCode IsText byte → ((value : ℕ) → byte.IsValue value → value < 2 ^ 8) → ((value : ℕ) → value < 2 ^ 8 → byte.IsValue value)
    → ((bytes : List ℕ) → length bytes ≡ count → AreBytes bytes → (from bytes < limit) × (to (from bytes) ≡ bytes))
    → ((value : ℕ) → value < limit → (from (to value) ≡ value) × (length (to value) ≡ count) × AreBytes (to value))
    → IsCode IsText (image (λ value. value < limit) from to (items byte count))
unfolding chain
number_is_code IsText byte count limit from to closed is below fits of_bytes of_number =
    struct_is_code IsText (λ value. value < limit) from to (items byte count) (items_is_code IsText byte count closed is)
    (λ values fit. (of_bytes values fit.0 (bytes_of_items byte below values fit.1)).0)
    (λ value small. let parts = of_number value small in ((parts.1, items_of_bytes byte fits (to value) parts.2), parts.0))
    (λ values fit. (of_bytes values fit.0 (bytes_of_items byte below values fit.1)).1)

-- two bytes and a number
pub bytes_of_16 : (bytes : List ℕ) → length bytes ≡ 2 → AreBytes bytes → (from_le_bytes w16 bytes < 2 ^ 16) × (to_le_bytes w16 (from_le_bytes w16 bytes) ≡ bytes)
bytes_of_16 bytes long are =
    (number_of_bytes (λ i. get_or bytes i 0) (byte_in bytes are) 1, le_bytes_2 bytes (from_le_bytes w16 bytes) long (byte_in bytes are) refl)

-- a number of 16 bits and its bytes
pub number_of_16 : (value : ℕ) → value < 2 ^ 16 → (from_le_bytes w16 (to_le_bytes w16 value) ≡ value) × (length (to_le_bytes w16 value) ≡ 2) × AreBytes (to_le_bytes w16 value)
number_of_16 value small = (from_le_bytes-to_le_bytes_2 value small, refl, bytes_of_number 0 2 value)

-- four bytes and a number
pub bytes_of_32 : (bytes : List ℕ) → length bytes ≡ 4 → AreBytes bytes → (from_le_bytes w32 bytes < 2 ^ 32) × (to_le_bytes w32 (from_le_bytes w32 bytes) ≡ bytes)
bytes_of_32 bytes long are =
    (number_of_bytes (λ i. get_or bytes i 0) (byte_in bytes are) 3, le_bytes_4 bytes (from_le_bytes w32 bytes) long (byte_in bytes are) refl)

-- a number of 32 bits and its bytes
pub number_of_32 : (value : ℕ) → value < 2 ^ 32 → (from_le_bytes w32 (to_le_bytes w32 value) ≡ value) × (length (to_le_bytes w32 value) ≡ 4) × AreBytes (to_le_bytes w32 value)
number_of_32 value small = (from_le_bytes-to_le_bytes_4 value small, refl, bytes_of_number 0 4 value)

-- eight bytes and a number
pub bytes_of_64 : (bytes : List ℕ) → length bytes ≡ 8 → AreBytes bytes → (from_le_bytes w64 bytes < 2 ^ 64) × (to_le_bytes w64 (from_le_bytes w64 bytes) ≡ bytes)
bytes_of_64 bytes long are =
    (number_of_bytes (λ i. get_or bytes i 0) (byte_in bytes are) 7, le_bytes_8 bytes (from_le_bytes w64 bytes) long (byte_in bytes are) refl)

-- a number of 64 bits and its bytes
pub number_of_64 : (value : ℕ) → value < 2 ^ 64 → (from_le_bytes w64 (to_le_bytes w64 value) ≡ value) × (length (to_le_bytes w64 value) ≡ 8) × AreBytes (to_le_bytes w64 value)
number_of_64 value small = (from_le_bytes-to_le_bytes_8 value small, refl, bytes_of_number 0 8 value)

-- a BB is a code
pub bb_is_code : IsCode AnyLetters bb
bb_is_code = fixed_is_code 2

-- an RC is a code
pub rc_is_code : IsCode AnyLetters rc
rc_is_code = fixed_is_code 8

-- an RS is a code
pub rs_is_code : IsCode AnyLetters rs
rs_is_code = number_is_code AnyLetters rc 2 (2 ^ 16) (from_le_bytes w16) (to_le_bytes w16) any_letters_closed rc_is_code (λ value h. h) (λ value h. h) bytes_of_16 number_of_16

-- an RL is a code
pub rl_is_code : IsCode AnyLetters rl
rl_is_code = number_is_code AnyLetters rc 4 (2 ^ 32) (from_le_bytes w32) (to_le_bytes w32) any_letters_closed rc_is_code (λ value h. h) (λ value h. h) bytes_of_32 number_of_32

-- an RD is a code
pub rd_is_code : IsCode AnyLetters rd
unfolding word_bytes
rd_is_code = number_is_code AnyLetters rc 8 (2 ^ 64) (from_le_bytes w64) (to_le_bytes w64) any_letters_closed rc_is_code (λ value h. h) (λ value h. h) bytes_of_64 number_of_64

-- each byte is written by eight bits
length_of_items : (values : List ℕ) → length (short_chain (λ (state : ℕ). rc) (λ value. 0) 0 values) ≡ 8 * length values
length_of_items [] = refl
length_of_items (value ∷ values) =
    omega (arith, length_of_items values, length_of_low_bits 8 value, length-append (rc.short value) (short_chain (λ (state : ℕ). rc) (λ value. 0) 0 values))

-- an RC has 8 bits
pub length_of_rc : (value : ℕ) → length (rc.short value) ≡ 8
length_of_rc value = length_of_low_bits 8 value

-- an RS has 16 bits
pub length_of_rs : (value : ℕ) → length (rs.short value) ≡ 16
unfolding chain
length_of_rs value = length_of_items (to_le_bytes w16 value)

-- an RL has 32 bits
pub length_of_rl : (value : ℕ) → length (rl.short value) ≡ 32
unfolding chain
length_of_rl value = length_of_items (to_le_bytes w32 value)

-- an RD has 64 bits
pub length_of_rd : (value : ℕ) → length (rd.short value) ≡ 64
unfolding chain word_bytes
length_of_rd value = length_of_items (to_le_bytes w64 value)
