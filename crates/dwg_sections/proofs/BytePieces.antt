-- Pieces of a list of bytes: the bytes at a place, and the number that they spell.
use Rattle.std.proofs.Common.{◌≡◌, ℕ, ◌+◌, ◌^◌, ◌<◌, ◌≤◌, List, ◌++◌, length, take, drop, get_or, sym, ap, ◌∙◌, refl, w16, w32, arith, append_assoc, length-take, length-drop, take-add, take_at, drop_at}
use Rattle.std.specs.Int.{from_le_bytes, to_le_bytes}
use Rattle.std.proofs.lemmas.Nat.{le_bytes_2, le_bytes_4}
use Rattle.std.proofs.lemmas.List.Elements.{All-from_recursion, recursion_from_All, All-take, All-drop}
use Rattle.dwg_base.specs.Bytes.{AreBytes}
use Rattle.dwg_base.proofs.ByteLists.{byte_below}
use Rattle.dwg_sections.specs.HeaderLines.{bytes_at, rs_at, rl_at}

-- a known prefix, and the known piece after it, are a longer known prefix
pub prefix_more : (bytes prefix piece : List ℕ) (place count : ℕ) → take place bytes ≡ prefix → bytes_at bytes place count ≡ piece → take (place + count) bytes ≡ prefix ++ piece
prefix_more bytes prefix piece place count known after =
    take-add place count bytes ∙ ap (λ xs. xs ++ bytes_at bytes place count) known ∙ ap (λ ys. prefix ++ ys) after

-- the piece after a prefix of known length is what stands there
pub piece_at : (bytes prefix piece rest : List ℕ) (place count : ℕ) → bytes ≡ prefix ++ piece ++ rest → length prefix ≡ place → length piece ≡ count → bytes_at bytes place count ≡ piece
piece_at bytes prefix piece rest place count whole long wide =
    ap (λ xs. bytes_at xs place count) (whole ∙ append_assoc prefix piece rest)
    ∙ ap (take count) (drop_at prefix (piece ++ rest) place long)
    ∙ take_at piece rest count wide

-- so many bytes stand at a place that lies so far before the end
pub length_at : (bytes : List ℕ) (place count : ℕ) → place + count ≤ length bytes → length (bytes_at bytes place count) ≡ count
length_at bytes place count within = omega (arith, length-take count (drop place bytes), length-drop place bytes)

-- what stands at a place in bytes are bytes
pub are_bytes_at : (bytes : List ℕ) (place count : ℕ) → AreBytes bytes → AreBytes (bytes_at bytes place count)
are_bytes_at bytes place count all =
    let is_byte = λ (byte : ℕ). byte < 2 ^ 8 in
    recursion_from_All is_byte _ (All-take is_byte count _ (All-drop is_byte place _ (All-from_recursion is_byte bytes all)))

-- the byte at a place in bytes
pub byte_at_below : (bytes : List ℕ) (place : ℕ) → AreBytes bytes → get_or bytes place 0 < 2 ^ 8
byte_at_below bytes place all = byte_below bytes all place

-- the RS at a place spells the two bytes there
pub rs_back : (bytes : List ℕ) (place : ℕ) → AreBytes bytes → place + 2 ≤ length bytes → bytes_at bytes place 2 ≡ to_le_bytes w16 (rs_at bytes place)
rs_back bytes place all within =
    sym (le_bytes_2 (bytes_at bytes place 2) _ (length_at bytes place 2 within) (byte_below _ (are_bytes_at bytes place 2 all)) refl)

-- the RL at a place spells the four bytes there
pub rl_back : (bytes : List ℕ) (place : ℕ) → AreBytes bytes → place + 4 ≤ length bytes → bytes_at bytes place 4 ≡ to_le_bytes w32 (rl_at bytes place)
rl_back bytes place all within =
    sym (le_bytes_4 (bytes_at bytes place 4) _ (length_at bytes place 4 within) (byte_below _ (are_bytes_at bytes place 4 all)) refl)

-- two bytes spell a number of 16 bits
two_below : (bytes : List ℕ) → ((i : ℕ) → get_or bytes i 0 < 256) → from_le_bytes w16 bytes < 2 ^ 16
two_below bytes small = omega (arith, small 0, small 1)

-- four bytes spell a number of 32 bits
four_below : (bytes : List ℕ) → ((i : ℕ) → get_or bytes i 0 < 256) → from_le_bytes w32 bytes < 2 ^ 32
four_below bytes small = omega (arith, small 0, small 1, small 2, small 3)

-- the range of an RS in bytes
pub rs_below : (bytes : List ℕ) (place : ℕ) → AreBytes bytes → rs_at bytes place < 2 ^ 16
rs_below bytes place all = two_below _ (byte_below _ (are_bytes_at bytes place 2 all))

-- the range of an RL in bytes
pub rl_below : (bytes : List ℕ) (place : ℕ) → AreBytes bytes → rl_at bytes place < 2 ^ 32
rl_below bytes place all = four_below _ (byte_below _ (are_bytes_at bytes place 4 all))
