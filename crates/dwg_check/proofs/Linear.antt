-- Maps of words that are linear over xor: what they make of a word follows from what they make of its bits.
use Rattle.std.proofs.Common.{◌≡◌, refl, sym, ◌∙◌, ap, ap₂, ℕ, zero, suc, ◌+◌, ◌*◌, ◌/◌, ◌%◌, ◌^◌, ◌<◌, ◌≤◌, List, ◌∷◌, map, arith, pow-suc, pow-add}
use Rattle.std.specs.Prelude.{bit_xor, ◌==◌, if◌then◌else◌}
use Rattle.std.specs.List.{range_with_len}
use Rattle.std.proofs.lemmas.Nat.{xor_comm, mod_below}
use Rattle.std.proofs.Math.Pow.{pow-lt}
use Rattle.std.proofs.Math.Nat.{mul-le-mul_right}
use lib.Bits.{xor_shifted, xor_self}
use Rattle.dwg_check.proofs.AppliedRows.{applied}

-- two words xored become what each becomes, xored
abbrev pub IsLinear : (ℕ → ℕ) → Type 0
IsLinear map_of = (a b : ℕ) → map_of (bit_xor a b) ≡ bit_xor (map_of a) (map_of b)

-- what becomes of each of n bits, from one on
abbrev pub row_of : (ℕ → ℕ) → ℕ → ℕ → List ℕ
row_of map_of at n = map (λ i. map_of (2 ^ i)) (range_with_len at n)

-- a linear map leaves no bit of no bits
pub linear_zero : (f : ℕ → ℕ) → IsLinear f → f 0 ≡ 0
linear_zero f linear = linear 0 0 ∙ xor_self (f 0)

-- the part of one bit
one_bit : (f : ℕ → ℕ) → IsLinear f → (at x : ℕ) → x < 2 → (if x == 1 then f (2 ^ at) else 0) ≡ f (x * 2 ^ at)
one_bit f linear at zero h = let none : 0 * 2 ^ at ≡ 0 = omega arith in sym (ap f none ∙ linear_zero f linear)
one_bit f linear at (suc zero) h = let one : 1 * 2 ^ at ≡ 2 ^ at = omega arith in sym (ap f one)
one_bit f linear at (suc (suc x)) h = absurd (omega arith)

-- a word is its lowest bit xored with the rest
split_word : (at w : ℕ) → bit_xor (w % 2 * 2 ^ at) (w / 2 * 2 ^ (at + 1)) ≡ w * 2 ^ at
split_word at w =
    let doubled : 2 ^ (at + 1) ≡ 2 ^ at * 2 = pow-add 2 at 1 in
    let low : w % 2 ≤ 1 = omega arith in
    let less : w % 2 * 2 ^ at ≤ 1 * 2 ^ at = mul-le-mul_right (2 ^ at) low in
    let some : 2 ^ at < 2 ^ (at + 1) = pow-lt (omega arith) in
    let halves : w ≡ w / 2 * 2 + w % 2 = omega arith in
    xor_comm (w % 2 * 2 ^ at) (w / 2 * 2 ^ (at + 1))
    ∙ xor_shifted (w / 2) (at + 1) (w % 2 * 2 ^ at) (omega (arith, less, some))
    ∙ ap (λ p. w / 2 * p + w % 2 * 2 ^ at) doubled
    ∙ joined (w / 2) (w % 2) (2 ^ at) ∙ ap (λ v. v * 2 ^ at) (sym halves)
  where
    joined : (h l p : ℕ) → h * (p * 2) + l * p ≡ (h * 2 + l) * p
    joined h l p = grind arith

-- the row of a linear map makes of n bits, shifted up, what the map makes of them
linear_shifted : (f : ℕ → ℕ) → IsLinear f → (n at w : ℕ) → w < 2 ^ n → applied (row_of f at n) w ≡ f (w * 2 ^ at)
unfolding applied
linear_shifted f linear zero at w h =
    let none : w * 2 ^ at ≡ 0 = nothing w (2 ^ at) h in
    sym (ap f none ∙ linear_zero f linear)
  where
    nothing : (w p : ℕ) → w < 1 → w * p ≡ 0
    nothing zero p h = omega arith
    nothing (suc w) p h = absurd (omega arith)
linear_shifted f linear (suc n) at w h =
    let half : w / 2 < 2 ^ n = omega (arith, h, pow-suc 2 n) in
    ap₂ bit_xor (one_bit f linear at (w % 2) (mod_below w 2 (omega arith))) (linear_shifted f linear n (at + 1) (w / 2) half)
    ∙ sym (linear (w % 2 * 2 ^ at) (w / 2 * 2 ^ (at + 1)))
    ∙ ap f (split_word at w)

-- the row of a linear map makes of a word what the map makes of it
pub linear_applied : (f : ℕ → ℕ) → IsLinear f → (w : ℕ) → w < 2 ^ 16 → applied (row_of f 0 16) w ≡ f w
linear_applied f linear w h = let whole : w * 2 ^ 0 ≡ w = omega arith in linear_shifted f linear 16 0 w h ∙ ap f whole

-- two maps that make the same of each of n bits have the same row
pub same_rows : (f g : ℕ → ℕ) (at n : ℕ) → ((i : ℕ) → i < at + n → f (2 ^ i) ≡ g (2 ^ i)) → row_of f at n ≡ row_of g at n
same_rows f g at zero same = refl
same_rows f g at (suc n) same =
    ap₂ (λ x xs. x ∷ xs) (same at (omega arith)) (same_rows f g (at + 1) n (λ i h. same i (omega (arith, h))))
