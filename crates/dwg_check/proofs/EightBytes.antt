-- Eight bytes turn the word as one look-up for each of them does (slicing by eight).
use Rattle.std.proofs.Common.{◌≡◌, sym, ◌∙◌, ap, ap₂, ℕ, ◌+◌, ◌/◌, ◌%◌, ◌^◌, ◌<◌, ◌≤◌, List, [], ◌∷◌, arith, length, get_or, drop, drop-cons, add-one, mod-eq_of_lt}
use Rattle.std.proofs.Math.Nat.{div-eq_of_lt}
use Rattle.std.specs.Prelude.{bit_xor, replicate}
use Rattle.std.proofs.lemmas.Nat.{xor_comm}
use lib.Bits.{xor_assoc, xor_zero_r}
use Rattle.dwg_check.specs.CheckWord.{check_word}
use Rattle.dwg_check.proofs.CheckWordLaws.{check_word_append}
use Rattle.dwg_check.proofs.ByteStep.{byte_apart}

-- what a byte and so many bytes 0 after it make of a word of 0
abbrev pub alone : ℕ → ℕ → ℕ
alone after byte = check_word 0 (byte ∷ replicate after 0)

-- from a word of 0 a byte counts alone, so it can be xored in before those after it
next_apart : (others byte : ℕ) (bytes : List ℕ) → byte < 2 ^ 8
    → bit_xor others (check_word 0 (byte ∷ bytes)) ≡ bit_xor (bit_xor others (alone (length bytes) byte)) (check_word 0 bytes)
next_apart others byte bytes h =
    ap (bit_xor others)
    (byte_apart 0 byte bytes h
    ∙ ap (λ b. bit_xor (alone (length bytes) b) (check_word 0 bytes)) (xor_comm 0 byte ∙ xor_zero_r byte))
    ∙ sym (xor_assoc others (alone (length bytes) byte) (check_word 0 bytes))

-- so the check word of eight bytes is what each of them makes alone, the first two with the word xored into them
eight_apart : (word a b c d e f g h : ℕ) → word < 2 ^ 16
    → a < 2 ^ 8 → b < 2 ^ 8 → c < 2 ^ 8 → d < 2 ^ 8 → e < 2 ^ 8 → f < 2 ^ 8 → g < 2 ^ 8
    → check_word word (a ∷ b ∷ c ∷ d ∷ e ∷ f ∷ g ∷ h ∷ [])
    ≡ bit_xor (bit_xor (bit_xor (bit_xor (bit_xor (bit_xor (bit_xor
    (alone 7 (bit_xor (word % 2 ^ 8) a)) (alone 6 (bit_xor (word / 2 ^ 8) b)))
    (alone 5 c)) (alone 4 d)) (alone 3 e)) (alone 2 f)) (alone 1 g)) (alone 0 h)
eight_apart word a b c d e f g h fits fa fb fc fd fe ff fg =
    let high_fits : word / 2 ^ 8 < 2 ^ 8 = omega (arith, fits) in
    let first : ℕ = alone 7 (bit_xor (word % 2 ^ 8) a) in
    let second : ℕ = alone 6 (bit_xor (word / 2 ^ 8) b) in
    byte_apart word a (b ∷ c ∷ d ∷ e ∷ f ∷ g ∷ h ∷ []) fa
    ∙ ap (bit_xor first)
    (byte_apart (word / 2 ^ 8) b (c ∷ d ∷ e ∷ f ∷ g ∷ h ∷ []) fb
    ∙ ap₂ (λ p q. bit_xor (alone 6 (bit_xor p b)) (check_word q (c ∷ d ∷ e ∷ f ∷ g ∷ h ∷ []))) (mod-eq_of_lt high_fits) (div-eq_of_lt high_fits))
    ∙ sym (xor_assoc first second (check_word 0 (c ∷ d ∷ e ∷ f ∷ g ∷ h ∷ [])))
    ∙ next_apart _ c (d ∷ e ∷ f ∷ g ∷ h ∷ []) fc
    ∙ next_apart _ d (e ∷ f ∷ g ∷ h ∷ []) fd
    ∙ next_apart _ e (f ∷ g ∷ h ∷ []) fe
    ∙ next_apart _ f (g ∷ h ∷ []) ff
    ∙ next_apart _ g (h ∷ []) fg

-- the bytes from a place on are the byte there and those after it
drop_one : (xs : List ℕ) (k : ℕ) → k < length xs → drop k xs ≡ get_or xs k 0 ∷ drop (k + 1) xs
drop_one xs k inside = rw (add-one, drop-cons xs k 0)

-- the eight bytes from a place on
next_eight : (xs : List ℕ) (at : ℕ) → at + 8 ≤ length xs
    → drop at xs
    ≡ get_or xs at 0 ∷ get_or xs (at + 1) 0 ∷ get_or xs (at + 2) 0 ∷ get_or xs (at + 3) 0
    ∷ get_or xs (at + 4) 0 ∷ get_or xs (at + 5) 0 ∷ get_or xs (at + 6) 0 ∷ get_or xs (at + 7) 0 ∷ drop (at + 8) xs
next_eight xs at within =
    next at (at + 1) (omega arith) (omega (arith, within)) ∙ ap (λ r. get_or xs at 0 ∷ r)
    (next (at + 1) (at + 2) (omega arith) (omega (arith, within)) ∙ ap (λ r. get_or xs (at + 1) 0 ∷ r)
    (next (at + 2) (at + 3) (omega arith) (omega (arith, within)) ∙ ap (λ r. get_or xs (at + 2) 0 ∷ r)
    (next (at + 3) (at + 4) (omega arith) (omega (arith, within)) ∙ ap (λ r. get_or xs (at + 3) 0 ∷ r)
    (next (at + 4) (at + 5) (omega arith) (omega (arith, within)) ∙ ap (λ r. get_or xs (at + 4) 0 ∷ r)
    (next (at + 5) (at + 6) (omega arith) (omega (arith, within)) ∙ ap (λ r. get_or xs (at + 5) 0 ∷ r)
    (next (at + 6) (at + 7) (omega arith) (omega (arith, within)) ∙ ap (λ r. get_or xs (at + 6) 0 ∷ r)
    (next (at + 7) (at + 8) (omega arith) (omega (arith, within)))))))))
  where
    next : (k after : ℕ) → k + 1 ≡ after → k < length xs → drop k xs ≡ get_or xs k 0 ∷ drop after xs
    next k after is inside = drop_one xs k inside ∙ ap (λ j. get_or xs k 0 ∷ drop j xs) is

-- the word after the eight bytes from a place on gives with the bytes after them what the word before gave with them
pub eight_bytes_less : (word : ℕ) (bytes : List ℕ) (at : ℕ) → at + 8 ≤ length bytes → word < 2 ^ 16
    → get_or bytes at 0 < 2 ^ 8 → get_or bytes (at + 1) 0 < 2 ^ 8 → get_or bytes (at + 2) 0 < 2 ^ 8 → get_or bytes (at + 3) 0 < 2 ^ 8
    → get_or bytes (at + 4) 0 < 2 ^ 8 → get_or bytes (at + 5) 0 < 2 ^ 8 → get_or bytes (at + 6) 0 < 2 ^ 8
    → check_word
    (bit_xor (bit_xor (bit_xor (bit_xor (bit_xor (bit_xor (bit_xor
    (alone 7 (bit_xor (word % 2 ^ 8) (get_or bytes at 0))) (alone 6 (bit_xor (word / 2 ^ 8) (get_or bytes (at + 1) 0))))
    (alone 5 (get_or bytes (at + 2) 0))) (alone 4 (get_or bytes (at + 3) 0))) (alone 3 (get_or bytes (at + 4) 0)))
    (alone 2 (get_or bytes (at + 5) 0))) (alone 1 (get_or bytes (at + 6) 0))) (alone 0 (get_or bytes (at + 7) 0)))
    (drop (at + 8) bytes)
    ≡ check_word word (drop at bytes)
eight_bytes_less word bytes at within fits fa fb fc fd fe ff fg =
    let rest : List ℕ = drop (at + 8) bytes in
    ap (λ w. check_word w rest)
    (sym (eight_apart word (get_or bytes at 0) (get_or bytes (at + 1) 0) (get_or bytes (at + 2) 0) (get_or bytes (at + 3) 0)
    (get_or bytes (at + 4) 0) (get_or bytes (at + 5) 0) (get_or bytes (at + 6) 0) (get_or bytes (at + 7) 0) fits fa fb fc fd fe ff fg))
    ∙ sym (check_word_append word
    (get_or bytes at 0 ∷ get_or bytes (at + 1) 0 ∷ get_or bytes (at + 2) 0 ∷ get_or bytes (at + 3) 0
    ∷ get_or bytes (at + 4) 0 ∷ get_or bytes (at + 5) 0 ∷ get_or bytes (at + 6) 0 ∷ get_or bytes (at + 7) 0 ∷ []) rest)
    ∙ ap (check_word word) (sym (next_eight bytes at within))
