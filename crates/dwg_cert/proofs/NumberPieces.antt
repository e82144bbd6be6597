-- Numbers of eight bytes at a place.
use Rattle.std.proofs.Common.{◌≡◌, refl, sym, ◌∙◌, ap, ℕ, ◌+◌, ◌^◌, ◌<◌, ◌≤◌, List, ◌++◌, length, take, drop, w64, arith, length-take, length-drop, take-add, take_at, drop_at}
use Rattle.std.specs.Int.{from_le_bytes, to_le_bytes}
use Rattle.std.proofs.lemmas.Nat.{le_bytes_8, from_le_bytes-to_le_bytes_8}
use Rattle.std.proofs.lemmas.List.Elements.{All-from_recursion, recursion_from_All, All-take, All-drop}
use Rattle.dwg_base.specs.Bytes.{AreBytes}
use Rattle.dwg_base.proofs.ByteLists.{byte_below}
use Rattle.dwg_cert.specs.CertificateLines.{number_at}

-- what stands at a place in bytes are bytes
are_bytes_at : (bytes : List ℕ) (place count : ℕ) → AreBytes bytes → AreBytes (take count (drop place bytes))
are_bytes_at bytes place count all =
    let is_byte = λ (byte : ℕ). byte < 2 ^ 8 in
    recursion_from_All is_byte _ (All-take is_byte count _ (All-drop is_byte place _ (All-from_recursion is_byte bytes all)))

-- eight bytes are those of the number that they spell
pub number_back : (bytes : List ℕ) (place : ℕ) → AreBytes bytes → place + 8 ≤ length bytes → take 8 (drop place bytes) ≡ to_le_bytes w64 (number_at bytes place)
unfolding number_at
number_back bytes place all within =
    let eight : length (take 8 (drop place bytes)) ≡ 8 = omega (arith, length-take 8 (drop place bytes), length-drop place bytes) in
    sym (le_bytes_8 (take 8 (drop place bytes)) _ eight (byte_below _ (are_bytes_at bytes place 8 all)) refl)

-- the number whose bytes stand at a place is read there
pub number_there : (bytes prefix rest : List ℕ) (number place : ℕ) → number < 2 ^ 64 → bytes ≡ prefix ++ (to_le_bytes w64 number ++ rest) → length prefix ≡ place → number_at bytes place ≡ number
unfolding number_at
number_there bytes prefix rest number place small whole far =
    ap (λ piece. from_le_bytes w64 (take 8 piece)) (ap (drop place) whole ∙ drop_at prefix (to_le_bytes w64 number ++ rest) place far)
    ∙ ap (from_le_bytes w64) (take_at (to_le_bytes w64 number) rest 8 refl)
    ∙ from_le_bytes-to_le_bytes_8 number small

-- a known prefix, and the known piece after it, are a longer known prefix
pub prefix_more : (bytes prefix piece : List ℕ) (place count : ℕ) → take place bytes ≡ prefix → take count (drop place bytes) ≡ piece → take (place + count) bytes ≡ prefix ++ piece
prefix_more bytes prefix piece place count known after =
    take-add place count bytes ∙ (ap (λ xs. xs ++ take count (drop place bytes)) known ∙ ap (λ ys. prefix ++ ys) after)
