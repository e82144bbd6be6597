-- What holds of every check word: its range, runs that are joined, and words that are xored.
use Rattle.std.proofs.Common.{◌≡◌, refl, sym, ◌∙◌, ap, ap₂, lit<, true, false, ℕ, zero, suc, ◌+◌, ◌*◌, ◌/◌, ◌%◌, ◌^◌, ◌<◌, List, [], ◌∷◌, ◌++◌, length, map, arith}
use Rattle.std.specs.Prelude.{bit_xor, replicate, fold, flat_map, ◌==◌, if◌then◌else◌}
use Rattle.std.specs.Int.{bit_at}
use Rattle.std.specs.List.{range_with_len}
use Rattle.std.proofs.lemmas.Nat.{xor_comm, xor_shr, xor_mod, xor_lt, mod_below}
use Rattle.std.proofs.lemmas.Nat.Bits.{bit_at-lt}
use Rattle.std.proofs.lemmas.List.Sums.{fold-append}
use Rattle.std.proofs.lemmas.List.Concat.{flat_map-append}
use Rattle.std.proofs.lemmas.Bool.{cond_both}
use lib.Bits.{xor_assoc, xor_self, xor_zero_r}
use Rattle.dwg_check.specs.CheckWord.{POLYNOMIAL, turn, low_bits_first, check_word, header_mask, header_check_word}
use Rattle.dwg_check.specs.CheckWordLaws.{CheckWordOfByte}

-- the half of a word as check words halve, an odd one with the polynomial added: the word after one bit 0
unfoldable pub half : ℕ → ℕ
half word = turn word 0

-- halved so many times: the word after so many bits 0
unfoldable pub halves : ℕ → ℕ → ℕ
halves zero word = word
halves (suc n) word = halves n (half word)

-- of three words the last two change places
pub xor_turned : (a b c : ℕ) → bit_xor (bit_xor a b) c ≡ bit_xor (bit_xor a c) b
xor_turned a b c = xor_assoc a b c ∙ ap (bit_xor a) (xor_comm b c) ∙ sym (xor_assoc a c b)

-- a word xored into both of two words is in neither
pub xor_twice : (a b c : ℕ) → bit_xor (bit_xor a c) (bit_xor b c) ≡ bit_xor a b
xor_twice a b c =
    ap (bit_xor (bit_xor a c)) (xor_comm b c) ∙ sym (xor_assoc (bit_xor a c) c b)
    ∙ ap (λ x. bit_xor x b) (xor_assoc a c c ∙ ap (bit_xor a) (xor_self c) ∙ xor_zero_r a)

-- two words, by their lowest bits and the others: the turn of both is the turn of one by the bit, xored with that of the other by 0
turn_parts : (x y b p q : ℕ) → x < 2 → y < 2 → b < 2
    → (if bit_xor x y == b then bit_xor p q else bit_xor (bit_xor p q) POLYNOMIAL)
    ≡ bit_xor (if x == b then p else bit_xor p POLYNOMIAL) (if y == 0 then q else bit_xor q POLYNOMIAL)
turn_parts zero zero zero p q _ _ _ = refl
turn_parts zero zero (suc zero) p q _ _ _ = xor_turned p q POLYNOMIAL
turn_parts zero (suc zero) zero p q _ _ _ = xor_assoc p q POLYNOMIAL
turn_parts zero (suc zero) (suc zero) p q _ _ _ = sym (xor_twice p q POLYNOMIAL)
turn_parts (suc zero) zero zero p q _ _ _ = xor_turned p q POLYNOMIAL
turn_parts (suc zero) zero (suc zero) p q _ _ _ = refl
turn_parts (suc zero) (suc zero) zero p q _ _ _ = sym (xor_twice p q POLYNOMIAL)
turn_parts (suc zero) (suc zero) (suc zero) p q _ _ _ = xor_assoc p q POLYNOMIAL
turn_parts (suc (suc x)) y b p q h _ _ = absurd (omega arith)
turn_parts x (suc (suc y)) b p q _ h _ = absurd (omega arith)
turn_parts x y (suc (suc b)) p q _ _ h = absurd (omega arith)

-- a turn is linear: two words xored turn as one by the bit, xored with the other by 0
pub turn_xor : (word change bit : ℕ) → bit < 2 → turn (bit_xor word change) bit ≡ bit_xor (turn word bit) (half change)
unfolding turn half
turn_xor word change bit h =
    ap₂ (λ x p. if x == bit then p else bit_xor p POLYNOMIAL) (xor_mod word change 1) (xor_shr word change 1)
    ∙ turn_parts (word % 2) (change % 2) bit (word / 2) (change / 2) (mod_below word 2 (omega arith)) (mod_below change 2 (omega arith)) h

-- so is halving
pub half_xor : (a b : ℕ) → half (bit_xor a b) ≡ bit_xor (half a) (half b)
unfolding half
half_xor a b = turn_xor a b 0 (omega arith)

-- and so is halving many times
pub halves_xor : (n a b : ℕ) → halves n (bit_xor a b) ≡ bit_xor (halves n a) (halves n b)
unfolding halves
halves_xor zero a b = refl
halves_xor (suc n) a b = ap (halves n) (half_xor a b) ∙ halves_xor n (half a) (half b)

-- a word and a number, by their lowest bits and the others: the half of both is the turn of the word by the number's lowest bit, xored with its others
half_parts : (x y p q : ℕ) → x < 2 → y < 2
    → (if bit_xor x y == 0 then bit_xor p q else bit_xor (bit_xor p q) POLYNOMIAL) ≡ bit_xor (if x == y then p else bit_xor p POLYNOMIAL) q
half_parts zero zero p q _ _ = refl
half_parts zero (suc zero) p q _ _ = xor_turned p q POLYNOMIAL
half_parts (suc zero) zero p q _ _ = xor_turned p q POLYNOMIAL
half_parts (suc zero) (suc zero) p q _ _ = refl
half_parts (suc (suc x)) y p q h _ = absurd (omega arith)
half_parts x (suc (suc y)) p q _ h = absurd (omega arith)

-- to halve a word that a number is xored into is to turn it by the number's lowest bit, with its other bits left to xor
pub half_turn : (word number : ℕ) → half (bit_xor word number) ≡ bit_xor (turn word (number % 2)) (number / 2)
unfolding turn half
half_turn word number =
    ap₂ (λ x p. if x == 0 then p else bit_xor p POLYNOMIAL) (xor_mod word number 1) (xor_shr word number 1)
    ∙ half_parts (word % 2) (number % 2) (word / 2) (number / 2) (mod_below word 2 (omega arith)) (mod_below number 2 (omega arith))

-- a turn keeps a word in 16 bits
pub turn_fits : (word bit : ℕ) → word < 2 ^ 16 → turn word bit < 2 ^ 16
unfolding turn
turn_fits word bit h =
    let lower : word / 2 < 2 ^ 16 = omega arith in
    elim (word % 2 == bit) as (λ same. (if same then word / 2 else bit_xor (word / 2) POLYNOMIAL) < 2 ^ 16)
    [ true ↦ lower | false ↦ xor_lt 16 (word / 2) POLYNOMIAL lower (lit< tt) ]

-- so do many turns
turns_fit : (word : ℕ) (bits : List ℕ) → word < 2 ^ 16 → fold turn word bits < 2 ^ 16
turns_fit word [] h = h
turns_fit word (bit ∷ bits) h = turns_fit (turn word bit) bits (turn_fits word bit h)

-- a check word has 16 bits where its start has
pub check_word_fits : (start : ℕ) (bytes : List ℕ) → start < 2 ^ 16 → check_word start bytes < 2 ^ 16
unfolding check_word
check_word_fits start bytes h = turns_fit start (flat_map low_bits_first bytes) h

-- the check word of no bytes is its start
pub check_word_none : (start : ℕ) → check_word start [] ≡ start
unfolding check_word
check_word_none start = refl

-- the check word of two runs joined is that of the second, begun as that of the first
pub check_word_append : (start : ℕ) (a b : List ℕ) → check_word start (a ++ b) ≡ check_word (check_word start a) b
unfolding check_word
check_word_append start a b =
    ap (fold turn start) (flat_map-append low_bits_first a b)
    ∙ fold-append turn start (flat_map low_bits_first a) (flat_map low_bits_first b)

-- the check word of a byte and the bytes after it is that of those, begun as that of the byte
pub check_word_cons : (start byte : ℕ) (bytes : List ℕ) → check_word start (byte ∷ bytes) ≡ check_word (check_word start (byte ∷ [])) bytes
check_word_cons start byte bytes = check_word_append start (byte ∷ []) bytes

-- n bits of a number turn two xored words as they turn the one, with the other halved n times
pub bits_xor : (number at n word change : ℕ)
    → fold turn (bit_xor word change) (map (bit_at number) (range_with_len at n))
    ≡ bit_xor (fold turn word (map (bit_at number) (range_with_len at n))) (halves n change)
unfolding halves
bits_xor number at zero word change = refl
bits_xor number at (suc n) word change =
    ap (λ x. fold turn x (map (bit_at number) (range_with_len (at + 1) n))) (turn_xor word change (bit_at number at) (bit_at-lt number at))
    ∙ bits_xor number (at + 1) n (turn word (bit_at number at)) (half change)

-- the check word of bytes 0 is the start halved, eight times a byte
pub check_word_zeros : (n start : ℕ) → check_word start (replicate n 0) ≡ halves (8 * n) start
unfolding check_word halves half
check_word_zeros zero start = refl
check_word_zeros (suc n) start =
    let eight_more : suc (suc (suc (suc (suc (suc (suc (suc (8 * n)))))))) ≡ 8 * suc n = omega arith in
    check_word_zeros n (halves 8 start) ∙ ap (λ m. halves m start) eight_more

-- check words are linear: a change of the start changes the check word by what becomes of the change over as many bytes 0
pub check_word_xor : (word change : ℕ) (bytes : List ℕ)
    → check_word (bit_xor word change) bytes ≡ bit_xor (check_word word bytes) (check_word change (replicate (length bytes) 0))
unfolding check_word halves half
check_word_xor word change [] = refl
check_word_xor word change (byte ∷ bytes) =
    ap (λ x. check_word x bytes) (bits_xor byte 0 8 word change)
    ∙ check_word_xor (fold turn word (low_bits_first byte)) (halves 8 change) bytes

-- the mask of a header's check word has 16 bits
mask_fits : (count : ℕ) → header_mask count < 2 ^ 16
mask_fits count =
    let below = λ (mask : ℕ). mask < 2 ^ 16 in
    cond_both (count == 3) _ _ below (λ three. omega arith)
    (λ more. cond_both (count == 4) _ _ below (λ four. omega arith)
    (λ further. cond_both (count == 5) _ _ below (λ five. omega arith) (λ six. omega arith)))

-- so has the check word of a header
pub header_check_word_fits : (count : ℕ) (bytes : List ℕ) → header_check_word count bytes < 2 ^ 16
unfolding header_check_word
header_check_word_fits count bytes = xor_lt 16 _ _ (check_word_fits 0 bytes (omega arith)) (mask_fits count)

pub check_word_of_byte : CheckWordOfByte
unfolding check_word
check_word_of_byte start byte = refl
