-- A byte turns the word as one look-up in the table does.
use Rattle.std.proofs.Common.{◌≡◌, refl, sym, ◌∙◌, ap, ap₂, ℕ, zero, suc, ◌+◌, ◌*◌, ◌/◌, ◌%◌, ◌^◌, ◌<◌, ◌≤◌, List, [], ◌∷◌, map, arith, mod-eq_of_lt, length, get_or, drop, drop-cons, add-one, add-zero, pow-suc}
use Rattle.std.proofs.Math.Nat.{div-eq_of_lt}
use Rattle.std.proofs.lemmas.List.{drop_all}
use Rattle.std.specs.Prelude.{bit_xor, fold, replicate}
use Rattle.std.specs.Int.{bit_at}
use Rattle.std.specs.List.{range_with_len}
use Rattle.std.proofs.lemmas.Nat.{xor_shr, xor_mod, xor_comm, xor_lt, shr-shr, shr_split, mod_below}
use Rattle.std.proofs.lemmas.List.FromFn.{get_or-map-range_with_len}
use lib.Bits.{xor_zero_r, xor_shifted}
use Rattle.dwg_check.specs.CheckWord.{turn, low_bits_first, check_word}
use Rattle.dwg_check.proofs.CheckWordLaws.{half, halves, half_turn, halves_xor, check_word_cons, check_word_none, check_word_zeros, check_word_xor}
use Rattle.dwg_check.specs.declared.table.TheConstants.{TABLES}

-- to halve n times a word that a number is xored into is to turn it by the number's n lowest bits, with the rest of the number left to xor
halves_bits : (at n word number : ℕ)
    → halves n (bit_xor word (number / 2 ^ at))
    ≡ bit_xor (fold turn word (map (bit_at number) (range_with_len at n))) (number / 2 ^ (at + n))
unfolding halves
halves_bits at zero word number = ap (λ k. bit_xor word (number / 2 ^ k)) (sym (add-zero at))
halves_bits at (suc n) word number =
    let next : number / 2 ^ at / 2 ≡ number / 2 ^ (at + 1) = shr-shr number at 1 in
    let last : at + 1 + n ≡ at + suc n = omega arith in
    ap (halves n) (half_turn word (number / 2 ^ at) ∙ ap (bit_xor (turn word (bit_at number at))) next)
    ∙ halves_bits (at + 1) n (turn word (bit_at number at)) number
    ∙ ap (λ k. bit_xor (fold turn (turn word (bit_at number at)) (map (bit_at number) (range_with_len (at + 1) n))) (number / 2 ^ k)) last

-- a byte turns the word as halving eight times does once the byte is xored into it
pub byte_halves : (word byte : ℕ) → byte < 2 ^ 8 → fold turn word (low_bits_first byte) ≡ halves 8 (bit_xor word byte)
byte_halves word byte h =
    let whole : byte / 2 ^ 0 ≡ byte = omega arith in
    let rest : byte / 2 ^ 8 ≡ 0 = div-eq_of_lt h in
    sym (ap (λ b. halves 8 (bit_xor word b)) (sym whole)
    ∙ halves_bits 0 8 word byte
    ∙ ap (bit_xor (fold turn word (low_bits_first byte))) rest
    ∙ xor_zero_r (fold turn word (low_bits_first byte)))

-- a number with one bit 0 below it loses it where it is halved
half_double : (number : ℕ) → half (number * 2) ≡ number
unfolding half turn
half_double number =
    let even : number * 2 % 2 ≡ 0 = omega arith in
    let lower : number * 2 / 2 ≡ number = omega arith in
    rw even lower

-- a number with n bits 0 below it loses them where it is halved n times
pub halves_up : (n number : ℕ) → halves n (number * 2 ^ n) ≡ number
unfolding halves
halves_up zero number = omega arith
halves_up (suc n) number =
    let double : number * 2 ^ suc n ≡ number * 2 ^ n * 2 = simp pow-suc (omega arith) in
    ap (λ w. halves n (half w)) double ∙ ap (halves n) (half_double (number * 2 ^ n)) ∙ halves_up n number

-- a word halved eight times is its high byte moved down, xored with what becomes of its low byte
halves_by_bytes : (word : ℕ) → halves 8 word ≡ bit_xor (word / 2 ^ 8) (halves 8 (word % 2 ^ 8))
halves_by_bytes word =
    let low_fits : word % 2 ^ 8 < 2 ^ 8 = mod_below word (2 ^ 8) (omega arith) in
    let joined : bit_xor (word / 2 ^ 8 * 2 ^ 8) (word % 2 ^ 8) ≡ word = xor_shifted (word / 2 ^ 8) 8 (word % 2 ^ 8) low_fits ∙ shr_split word 8 in
    ap (halves 8) (sym joined)
    ∙ halves_xor 8 (word / 2 ^ 8 * 2 ^ 8) (word % 2 ^ 8)
    ∙ ap (λ w. bit_xor w (halves 8 (word % 2 ^ 8))) (halves_up 8 (word / 2 ^ 8))

-- each row of the tables has at each index that index halved, eight times for each row up to it
tables_are : TABLES ≡ map (λ row. map (halves (8 * suc row)) (range_with_len 0 256)) (range_with_len 0 8)
unfolding halves half turn
tables_are = refl

-- a byte and bytes 0 after it are as many bytes 0, begun as the byte
byte_of_start : (byte after : ℕ) → byte < 2 ^ 8 → check_word 0 (byte ∷ replicate after 0) ≡ halves (8 * suc after) byte
unfolding check_word halves half
byte_of_start byte after h =
    check_word_cons 0 byte (replicate after 0)
    ∙ ap (λ w. check_word w (replicate after 0)) (byte_halves 0 byte h ∙ ap (halves 8) (xor_comm 0 byte ∙ xor_zero_r byte))
    ∙ check_word_zeros (suc after) byte

-- so the entry of a row at a byte is what the byte and as many bytes 0 after it make of a word of 0
pub entry_is : (after byte : ℕ) → after < 8 → byte < 2 ^ 8 → get_or (get_or TABLES after []) byte 0 ≡ check_word 0 (byte ∷ replicate after 0)
entry_is after byte some low =
    ap (λ t. get_or (get_or t after []) byte 0) tables_are
    ∙ ap (λ row. get_or row byte 0) (get_or-map-range_with_len (λ row. map (halves (8 * suc row)) (range_with_len 0 256)) 0 8 after after [] some (omega arith))
    ∙ get_or-map-range_with_len (halves (8 * suc after)) 0 256 byte byte 0 low (omega arith)
    ∙ sym (byte_of_start byte after low)

-- the check word of a byte and those after it is that of those, begun as the word's high byte, xored with what the word's low byte
-- xored with the byte, and as many bytes 0 after it, make of a word of 0
pub byte_apart : (word byte : ℕ) (bytes : List ℕ) → byte < 2 ^ 8
    → check_word word (byte ∷ bytes)
    ≡ bit_xor (check_word 0 (bit_xor (word % 2 ^ 8) byte ∷ replicate (length bytes) 0)) (check_word (word / 2 ^ 8) bytes)
unfolding check_word turn halves half
byte_apart word byte bytes h =
    let mixed : ℕ = bit_xor word byte in
    let first : ℕ = bit_xor (word % 2 ^ 8) byte in
    let high : mixed / 2 ^ 8 ≡ word / 2 ^ 8 = xor_shr word byte 8 ∙ ap (bit_xor (word / 2 ^ 8)) (div-eq_of_lt h) ∙ xor_zero_r (word / 2 ^ 8) in
    let low : mixed % 2 ^ 8 ≡ first = xor_mod word byte 8 ∙ ap (bit_xor (word % 2 ^ 8)) (mod-eq_of_lt h) in
    let low_fits : first < 2 ^ 8 = xor_lt 8 (word % 2 ^ 8) byte (mod_below word (2 ^ 8) (omega arith)) h in
    let turned : fold turn word (low_bits_first byte) ≡ bit_xor (word / 2 ^ 8) (halves 8 first) =
    byte_halves word byte h ∙ halves_by_bytes mixed ∙ ap₂ (λ p q. bit_xor p (halves 8 q)) high low in
    let after : check_word (halves 8 first) (replicate (length bytes) 0) ≡ check_word 0 (first ∷ replicate (length bytes) 0) =
    check_word_zeros (suc (length bytes)) first ∙ sym (byte_of_start first (length bytes) low_fits) in
    ap (λ w. check_word w bytes) turned
    ∙ check_word_xor (word / 2 ^ 8) (halves 8 first) bytes
    ∙ xor_comm (check_word (word / 2 ^ 8) bytes) (check_word (halves 8 first) (replicate (length bytes) 0))
    ∙ ap (λ w. bit_xor w (check_word (word / 2 ^ 8) bytes)) after

-- the word after a byte is its high byte, xored with what its low byte xored with the byte makes of a word of 0
pub check_word_of_byte : (word byte : ℕ) → byte < 2 ^ 8
    → check_word word (byte ∷ []) ≡ bit_xor (word / 2 ^ 8) (check_word 0 (bit_xor (word % 2 ^ 8) byte ∷ replicate 0 0))
check_word_of_byte word byte h =
    byte_apart word byte [] h
    ∙ xor_comm (check_word 0 (bit_xor (word % 2 ^ 8) byte ∷ [])) (check_word (word / 2 ^ 8) [])
    ∙ ap (λ w. bit_xor w (check_word 0 (bit_xor (word % 2 ^ 8) byte ∷ []))) (check_word_none (word / 2 ^ 8))

-- the word after the byte at an index gives with the bytes after it what the word before gave with the byte
pub one_byte_less : (word : ℕ) (bytes : List ℕ) (i : ℕ) → i < length bytes
    → check_word (check_word word (get_or bytes i 0 ∷ [])) (drop (i + 1) bytes) ≡ check_word word (drop i bytes)
one_byte_less word bytes i inside =
    sym (ap (check_word word) (next bytes i inside) ∙ check_word_cons word (get_or bytes i 0) (drop (i + 1) bytes))
  where
    next : (xs : List ℕ) (k : ℕ) → k < length xs → drop k xs ≡ get_or xs k 0 ∷ drop (k + 1) xs
    next xs k within = rw (add-one, drop-cons xs k 0)

-- with no byte left the word is the check word
pub no_byte_left : (word : ℕ) (bytes : List ℕ) (i : ℕ) → length bytes ≤ i → check_word word (drop i bytes) ≡ word
no_byte_left word bytes i h = ap (check_word word) (drop_all i bytes h) ∙ check_word_none word
