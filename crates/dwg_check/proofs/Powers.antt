-- The rows of the powers of one zero byte.
use Rattle.std.proofs.Common.{◌≡◌, refl, sym, ◌∙◌, ap, ap₂, ℕ, zero, suc, ◌+◌, ◌*◌, ◌/◌, ◌%◌, ◌^◌, ◌<◌, ◌≤◌, List, [], ◌∷◌, map, arith, length, get_or, drop, take, drop-cons, add-one, pow-suc}
use Rattle.std.specs.Prelude.{bit_xor, replicate, ◌==◌, if◌then◌else◌}
use Rattle.std.specs.List.{range_with_len}
use Rattle.std.proofs.lemmas.List.{replicate-append-replicate, drop_all, get_or-map, get_or-take, length-take-le}
use Rattle.std.proofs.lemmas.List.FromFn.{length-map-range_with_len}
use lib.Bits.{xor_assoc, xor_zero_r}
use Rattle.std.proofs.lemmas.Grind.{get_or_after_one}
use Rattle.std.proofs.lemmas.Simd.{map-map}
use Rattle.std.proofs.Math.Pow.{pow-lt}
use Rattle.dwg_check.specs.CheckWord.{turn, check_word}
use Rattle.dwg_check.proofs.CheckWordLaws.{halves_xor, check_word_none, check_word_append, check_word_zeros, check_word_fits}
use Rattle.dwg_check.proofs.AppliedRows.{applied}
use Rattle.dwg_check.specs.declared.zeros.TheConstants.{POWERS}
use Rattle.dwg_check.proofs.Linear.{IsLinear, row_of, linear_applied}

-- what so many zero bytes make of a word
abbrev pub after : ℕ → ℕ → ℕ
after n word = check_word word (replicate n 0)

-- none leave it
pub after_none : (word : ℕ) → after 0 word ≡ word
after_none word = check_word_none word

-- some and then some more are their sum
pub after_more : (m n word : ℕ) → after n (after m word) ≡ after (m + n) word
after_more m n word =
    sym (check_word_append word (replicate m 0) (replicate n 0)) ∙ ap (check_word word) (replicate-append-replicate m n 0)

-- zero bytes are linear
pub after_linear : (n : ℕ) → IsLinear (after n)
after_linear n a b =
    check_word_zeros n (bit_xor a b) ∙ halves_xor (8 * n) a b
    ∙ sym (ap₂ bit_xor (check_word_zeros n a) (check_word_zeros n b))

-- a row that is applied to itself
abbrev doubled : List ℕ → List ℕ
doubled row = map (applied row) row

-- the first row is that of one zero byte
first_row : get_or POWERS 0 [] ≡ row_of (after 1) 0 16
unfolding check_word turn
first_row = refl

-- each further row is the one before it, applied to itself
further_rows : drop 1 POWERS ≡ map doubled (take 14 POWERS)
unfolding applied
further_rows = refl

-- so each row at its place is that of the one before it
row_before : (rows : List (List ℕ)) → drop 1 rows ≡ map doubled (take 14 rows) → length rows ≡ 15 → (k : ℕ) → k < 14
    → get_or rows (k + 1) [] ≡ doubled (get_or rows k [])
row_before rows each all k h =
    let next : k + 1 ≡ 1 + k = omega arith in
    let most : length (take 14 rows) ≡ 14 = length-take-le 14 rows (omega (arith, all)) in
    ap (λ i. get_or rows i []) next ∙ sym (get_or_after_one rows k []) ∙ ap (λ r. get_or r k []) each
    ∙ get_or-map doubled (take 14 rows) k [] [] (omega (arith, h, most))
    ∙ ap doubled (get_or-take 14 rows k [] h)

-- a row of zero bytes, applied to itself, is that of twice as many
row_twice : (n : ℕ) → doubled (row_of (after n) 0 16) ≡ row_of (after (n + n)) 0 16
row_twice n =
    map-map (applied (row_of (after n) 0 16)) (λ i. after n (2 ^ i)) (range_with_len 0 16)
    ∙ same_bits 0 16 (λ i h. linear_applied (after n) (after_linear n) (after n (2 ^ i)) (check_word_fits (2 ^ i) (replicate n 0) (pow-lt h)) ∙ after_more n n (2 ^ i))
  where
    same_bits : (at m : ℕ) → ((i : ℕ) → i < at + m → applied (row_of (after n) 0 16) (after n (2 ^ i)) ≡ after (n + n) (2 ^ i))
        → map (λ i. applied (row_of (after n) 0 16) (after n (2 ^ i))) (range_with_len at m) ≡ row_of (after (n + n)) at m
    same_bits at zero same = refl
    same_bits at (suc m) same = ap₂ (λ x xs. x ∷ xs) (same at (omega arith)) (same_bits (at + 1) m (λ i h. same i (omega (arith, h))))

-- the row at each place is that of so many zero bytes
row_is : (k : ℕ) → k < 15 → get_or POWERS k [] ≡ row_of (after (2 ^ k)) 0 16
row_is zero h = first_row
row_is (suc k) h =
    let twice : 2 ^ k + 2 ^ k ≡ 2 ^ suc k = simp pow-suc (omega arith) in
    let one_more : suc k ≡ k + 1 = omega arith in
    ap (λ i. get_or POWERS i []) one_more ∙ row_before POWERS further_rows refl k (omega arith)
    ∙ ap doubled (row_is k (omega arith)) ∙ row_twice (2 ^ k) ∙ ap (λ n. row_of (after n) 0 16) twice

-- a row that is applied to a word gives what so many zero bytes make of it
pub power_applied : (k word : ℕ) → k < 15 → word < 2 ^ 16 → applied (get_or POWERS k []) word ≡ after (2 ^ k) word
power_applied k word h fits =
    ap (λ row. applied row word) (row_is k h) ∙ linear_applied (after (2 ^ k)) (after_linear (2 ^ k)) word fits

-- each row has 16 entries
row_length : (k : ℕ) → k < 15 → length (get_or POWERS k []) ≡ 16
row_length k h = ap length (row_is k h) ∙ length-map-range_with_len (λ i. after (2 ^ k) (2 ^ i)) 0 16

-- a row from a bit on makes of the bits that are left the bit's part, and what it makes from the next bit on of the rest
row_split : (row : List ℕ) (bit rest : ℕ) → bit < length row
    → applied (drop bit row) rest ≡ bit_xor (if rest % 2 == 1 then get_or row bit 0 else 0) (applied (drop (bit + 1) row) (rest / 2))
unfolding applied
row_split row bit rest h = ap (λ r. applied r rest) (next row bit h)
  where
    next : (xs : List ℕ) (k : ℕ) → k < length xs → drop k xs ≡ get_or xs k 0 ∷ drop (k + 1) xs
    next xs k within = rw (add-one, drop-cons xs k 0)

-- a bit more is taken, and the whole stays
pub one_bit_less : (k bit whole rest : ℕ) → k < 15 → bit < 16
    → bit_xor (bit_xor whole (if rest % 2 == 1 then get_or (get_or POWERS k []) bit 0 else 0)) (applied (drop (bit + 1) (get_or POWERS k [])) (rest / 2))
    ≡ bit_xor whole (applied (drop bit (get_or POWERS k [])) rest)
one_bit_less k bit whole rest h within =
    let there : bit < length (get_or POWERS k []) = omega (arith, within, row_length k h) in
    xor_assoc whole _ _ ∙ ap (bit_xor whole) (sym (row_split (get_or POWERS k []) bit rest there))

-- with no bit left nothing more comes
pub no_bit_left : (k bit whole rest : ℕ) → k < 15 → 16 ≤ bit → bit_xor whole (applied (drop bit (get_or POWERS k [])) rest) ≡ whole
unfolding applied
no_bit_left k bit whole rest h all =
    let after : length (get_or POWERS k []) ≤ bit = omega (arith, all, row_length k h) in
    ap (λ row. bit_xor whole (applied row rest)) (drop_all bit (get_or POWERS k []) after) ∙ xor_zero_r whole
