-- The lemmas on bits, by recursion over them: of numbers, of joined bytes, between two places, and where one is taken.
use Rattle.std.proofs.Common.{◌≡◌, refl, sym, ◌∙◌, ap, ap₂, ℕ, zero, suc, ◌+◌, ◌-◌, ◌*◌, ◌/◌, ◌%◌, ◌^◌, ◌<◌, ◌≤◌, Bool, true, false, List, [], ◌∷◌, ◌++◌, length, take, drop, arith, mod-eq_of_lt, take-add, drop-drop}
use Rattle.std.specs.Prelude.{◌==◌, if◌then◌else◌}
use Rattle.std.specs.Int.{bit_at}
use Rattle.std.proofs.Math.Nat.{suc-add, pow-suc}
use Rattle.std.proofs.lemmas.Nat.{pow-add, shr-shr, mod-pow-add}
use Rattle.std.proofs.lemmas.Nat.Bits.{bit_at-lt, bit_at_cat_low, bit_at_cat_high, bit_at_above}
use Rattle.std.proofs.lemmas.List.{append-nil, length-append, length-take-le, length-drop, take_at, drop_at, take_all}
use Rattle.std.proofs.lemmas.List.Concat.{flat_map-append}
use Rattle.dwg_base.specs.Bytes.{AreBytes}
use Rattle.dwg_bits.specs.Bits.{is_set, low_bits, bits, num}
use Rattle.dwg_bits.specs.Cursor.{bits_between}

-- the low bits of a number are as many as asked
pub length_of_low_bits : (count value : ℕ) → length (low_bits count value) ≡ count
unfolding low_bits
length_of_low_bits zero value = refl
length_of_low_bits (suc count) value = ap suc (length_of_low_bits count value)

-- what a bit of this weight adds to a number
weighed : (value exponent weight : ℕ) → (if is_set value exponent then weight else 0) ≡ bit_at value exponent * weight
weighed value exponent weight = of_bit (bit_at value exponent) (bit_at-lt value exponent)
  where
    of_bit : (bit : ℕ) → bit < 2 → (if bit == 1 then weight else 0) ≡ bit * weight
    of_bit zero h = omega arith
    of_bit (suc zero) h = omega arith
    of_bit (suc (suc bit)) h = absurd (omega arith)

-- the low bits of a number spell its remainder
pub remainder_of_low_bits : (count value : ℕ) → num (low_bits count value) ≡ value % 2 ^ count
unfolding low_bits num
remainder_of_low_bits zero value = omega arith
remainder_of_low_bits (suc count) value =
    ap₂ (λ n rest. (if is_set value count then 2 ^ n else 0) + rest) (length_of_low_bits count value) (remainder_of_low_bits count value)
    ∙ ap (λ x. x + value % 2 ^ count) (weighed value count (2 ^ count))
    ∙ sym (mod-pow-add value 1 count)
    ∙ ap (λ n. value % 2 ^ n) (omega arith)

-- so they spell the number, where it has no more bits
pub num_of_low_bits : (count value : ℕ) → value < 2 ^ count → num (low_bits count value) ≡ value
num_of_low_bits count value h = remainder_of_low_bits count value ∙ mod-eq_of_lt h

-- so many bits spell a number below that power of two
pub num_fits : (s : List Bool) → num s < 2 ^ length s
unfolding num
num_fits [] = omega arith
num_fits (true ∷ rest) = omega (arith, num_fits rest, pow-suc 2 (length rest))
num_fits (false ∷ rest) = omega (arith, num_fits rest, pow-suc 2 (length rest))

-- a multiple of a higher power leaves the low bits alone
pub low_bits_of_sum : (count high k low : ℕ) → count ≤ k → low_bits count (high * 2 ^ k + low) ≡ low_bits count low
unfolding low_bits
low_bits_of_sum zero high k low h = refl
low_bits_of_sum (suc count) high k low h =
    ap₂ (λ bit rest. (bit == 1) ∷ rest) (bit_at_cat_low high k low count (omega arith)) (low_bits_of_sum count high k low (omega arith))

-- the bits that spell a number are its low bits
pub low_bits_of_num : (s : List Bool) → low_bits (length s) (num s) ≡ s
unfolding low_bits num
low_bits_of_num [] = refl
low_bits_of_num (true ∷ rest) =
    let n : ℕ = length rest in
    let none : n - n ≡ 0 = omega arith in
    let one : 2 ^ n + num rest ≡ 1 * 2 ^ n + num rest = omega arith in
    let top : bit_at (1 * 2 ^ n + num rest) n ≡ 1 = bit_at_cat_high 1 n (num rest) n (num_fits rest) (omega arith) ∙ ap (bit_at 1) none in
    ap (low_bits (suc n)) one
    ∙ ap₂ (λ bit more. (bit == 1) ∷ more) top (low_bits_of_sum n 1 n (num rest) (omega arith) ∙ low_bits_of_num rest)
low_bits_of_num (false ∷ rest) =
    let n : ℕ = length rest in
    let none : 0 + num rest ≡ num rest = omega arith in
    ap (low_bits (suc n)) none
    ∙ ap₂ (λ bit more. (bit == 1) ∷ more) (bit_at_above (num rest) n n (num_fits rest) (omega arith)) (low_bits_of_num rest)

-- the low bits of a number are those of its quotient, and then those below
pub low_bits_joined : (a b value : ℕ) → low_bits (a + b) value ≡ low_bits a (value / 2 ^ b) ++ low_bits b value
unfolding low_bits
low_bits_joined zero b value = ap (λ n. low_bits n value) (omega arith)
low_bits_joined (suc a) b value =
    let turned : b + a ≡ a + b = omega arith in
    ap (λ n. low_bits n value) (suc-add a b)
    ∙ ap₂ (λ bit rest. (bit % 2 == 1) ∷ rest) (sym (shr-shr value b a ∙ ap (λ n. value / 2 ^ n) turned)) (low_bits_joined a b value)

-- the low bits of a number are those of its remainder
pub low_bits_of_remainder : (count value : ℕ) → low_bits count (value % 2 ^ count) ≡ low_bits count value
low_bits_of_remainder count value =
    ap₂ low_bits (sym (length_of_low_bits count value)) (sym (remainder_of_low_bits count value)) ∙ low_bits_of_num (low_bits count value)

-- the low bits of a number are those of its quotient, and then those of its remainder
pub low_bits_split : (a b value : ℕ) → low_bits (a + b) value ≡ low_bits a (value / 2 ^ b) ++ low_bits b (value % 2 ^ b)
low_bits_split a b value = low_bits_joined a b value ∙ ap (λ rest. low_bits a (value / 2 ^ b) ++ rest) (sym (low_bits_of_remainder b value))

-- joined bits spell the first number, moved up, and the second
pub num_joined : (s t : List Bool) → num (s ++ t) ≡ num s * 2 ^ length t + num t
unfolding num
num_joined [] t = omega arith
num_joined (true ∷ s) t =
    ap₂ (λ n rest. 2 ^ n + rest) (length-append s t) (num_joined s t)
    ∙ ap (λ top. top + (num s * 2 ^ length t + num t)) (pow-add 2 (length s) (length t))
    ∙ omega arith
num_joined (false ∷ s) t = ap (λ rest. 0 + rest) (num_joined s t) ∙ omega arith

-- the bits of joined bytes are joined
pub bits_joined : (a b : List ℕ) → bits (a ++ b) ≡ bits a ++ bits b
unfolding bits
bits_joined a b = flat_map-append (low_bits 8) a b

-- a byte after others has its bits after theirs
pub bits_more : (bytes : List ℕ) (byte : ℕ) → bits (bytes ++ byte ∷ []) ≡ bits bytes ++ low_bits 8 byte
unfolding bits
bits_more bytes byte = flat_map-append (low_bits 8) bytes (byte ∷ []) ∙ ap (λ last. bits bytes ++ last) (append-nil (low_bits 8 byte))

-- each byte has eight bits
pub length_of_bits : (bytes : List ℕ) → length (bits bytes) ≡ 8 * length bytes
unfolding bits
length_of_bits [] = refl
length_of_bits (byte ∷ bytes) =
    length-append (low_bits 8 byte) (bits bytes) ∙ ap₂ (λ m n. m + n) (length_of_low_bits 8 byte) (length_of_bits bytes) ∙ omega arith

-- bytes with the same bits are the same
pub bits_same : (a b : List ℕ) → AreBytes a → AreBytes b → bits a ≡ bits b → a ≡ b
unfolding bits
bits_same [] [] p q same = refl
bits_same [] (y ∷ b) p q same = absurd (omega (arith, ap length same, length-append (low_bits 8 y) (bits b), length_of_low_bits 8 y))
bits_same (x ∷ a) [] p q same = absurd (omega (arith, ap length same, length-append (low_bits 8 x) (bits a), length_of_low_bits 8 x))
bits_same (x ∷ a) (y ∷ b) p q same =
    let first : low_bits 8 x ≡ low_bits 8 y =
    sym (take_at (low_bits 8 x) (bits a) 8 (length_of_low_bits 8 x)) ∙ ap (take 8) same ∙ take_at (low_bits 8 y) (bits b) 8 (length_of_low_bits 8 y) in
    let after : bits a ≡ bits b =
    sym (drop_at (low_bits 8 x) (bits a) 8 (length_of_low_bits 8 x)) ∙ ap (drop 8) same ∙ drop_at (low_bits 8 y) (bits b) 8 (length_of_low_bits 8 y) in
    ap₂ ◌∷◌ (sym (num_of_low_bits 8 x p.0) ∙ ap num first ∙ num_of_low_bits 8 y q.0) (bits_same a b p.1 q.1 after)

-- the bits between two places are as many as the places are apart
pub length_of_bits_between : (bytes : List ℕ) (from to : ℕ) → to ≤ 8 * length bytes → length (bits_between bytes from to) ≡ to - from
unfolding bits_between
length_of_bits_between bytes from to within =
    length-take-le (to - from) (drop from (bits bytes)) (omega (arith, length-drop from (bits bytes), length_of_bits bytes))

-- so many bits from a place on are as many
pub run_counted : (bytes : List ℕ) (from count : ℕ) → from + count ≤ 8 * length bytes → length (bits_between bytes from (from + count)) ≡ count
run_counted bytes from count within = length_of_bits_between bytes from (from + count) within ∙ omega arith

-- the bits up to a place, and those from there on
pub bits_between_joined : (bytes : List ℕ) (from mid to : ℕ) → from ≤ mid → mid ≤ to → bits_between bytes from mid ++ bits_between bytes mid to ≡ bits_between bytes from to
unfolding bits_between
bits_between_joined bytes from mid to h k =
    let up : from + (mid - from) ≡ mid = omega arith in
    let over : (mid - from) + (to - mid) ≡ to - from = omega arith in
    let all : List Bool = bits bytes in
    ap (λ rest. take (mid - from) (drop from all) ++ take (to - mid) rest) (ap (λ n. drop n all) (sym up) ∙ sym (drop-drop (mid - from) from all))
    ∙ sym (take-add (mid - from) (to - mid) (drop from all))
    ∙ ap (λ n. take n (drop from all)) over

-- from a place to itself there is no bit
pub bits_between_none : (bytes : List ℕ) (place : ℕ) → bits_between bytes place place ≡ []
unfolding bits_between
bits_between_none bytes place = let none : place - place ≡ 0 = omega arith in ap (λ n. take n (drop place (bits bytes))) none

-- from the first place to the last there are all bits
pub bits_between_all : (bytes : List ℕ) (to : ℕ) → to ≡ 8 * length bytes → bits_between bytes 0 to ≡ bits bytes
unfolding bits_between
bits_between_all bytes to last = take_all (to - 0) (bits bytes) (omega (arith, length_of_bits bytes))

-- the bits taken as a number stand before those that are left then
pub taken_prefix : (bytes : List ℕ) (place count end value : ℕ) → place + count ≤ end → end ≤ 8 * length bytes → value ≡ num (bits_between bytes place (place + count))
    → bits_between bytes place end ≡ low_bits count value ++ bits_between bytes (place + count) end
taken_prefix bytes place count end value within reach spelled =
    let prefix : List Bool = bits_between bytes place (place + count) in
    let long : length prefix ≡ count = run_counted bytes place count (omega arith) in
    let same : low_bits count value ≡ prefix = ap₂ low_bits (sym long) spelled ∙ low_bits_of_num prefix in
    sym (bits_between_joined bytes place (place + count) end (omega arith) within)
    ∙ ap (λ first. first ++ bits_between bytes (place + count) end) (sym same)
