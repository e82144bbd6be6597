-- Groups of value bits, written one by one.
use Rattle.std.proofs.Common.{◌≡◌, sym, ◌∙◌, ap, subst, ℕ, zero, suc, ◌+◌, ◌-◌, ◌*◌, ◌/◌, ◌%◌, ◌^◌, ◌<◌, ◌≤◌, true, false, List, [], ◌∷◌, length, arith}
use Rattle.std.specs.Prelude.{nat_lt, if◌then◌else◌}
use Rattle.std.proofs.Math.Nat.{pow-suc, pow-zero}
use Rattle.std.proofs.lemmas.Nat.{div_below}
use Rattle.std.proofs.lemmas.List.{append-nil}
use Rattle.std.proofs.lemmas.Bool.Decides.{nat_tests}
use Rattle.dwg_bits.specs.Bits.{low_bits, bits}
use Rattle.dwg_bits.specs.Sink.{Written, Extends}
use Rattle.dwg_bits.proofs.SinkLemmas.{extends_by_both}
use Rattle.dwg_grammar.specs.Combinators.{always, choose}
use Rattle.dwg_grammar.specs.ModularCodes.{after_group, mc_within}

-- a byte after a prefix is written by its bits
pub byte_written : (old mid new : Written) (byte : ℕ) (others : List ℕ) → Extends old mid (low_bits 8 byte) → Extends mid new (bits others) → Extends old new (bits (byte ∷ others))
unfolding bits
byte_written old mid new byte others first rest = extends_by_both old mid new (low_bits 8 byte) (bits others) first rest

-- so is a single byte
pub one_byte_written : (old new : Written) (byte : ℕ) → Extends old new (low_bits 8 byte) → Extends old new (bits (byte ∷ []))
unfolding bits
one_byte_written old new byte first = subst (Extends old new) (sym (append-nil (low_bits 8 byte))) first

-- a number of one group is written by itself
pub mc_short_last : (more value : ℕ) → 0 < more → value < 128 → (mc_within more).short value ≡ value ∷ []
unfolding mc_within
mc_short_last zero value some small = absurd (omega arith)
mc_short_last (suc more) value some small =
    let one : nat_lt value 128 ≡ true = grind (arith, nat_tests) in
    ap
    (λ test. (if test then value else 128 + value % 128)
    ∷ (choose (nat_lt (if test then value else 128 + value % 128) 128) (always {A = ℕ} (if test then value else 128 + value % 128))
    (after_group 128 ((if test then value else 128 + value % 128) - 128) (mc_within more))).short value) one
    ∙ ap (λ test. value ∷ (choose test (always {A = ℕ} value) (after_group 128 (value - 128) (mc_within more))).short value) one

-- a greater one by its low group and the number above it
pub mc_short_more : (more value : ℕ) → 0 < more → 128 ≤ value → (mc_within more).short value ≡ (128 + value % 128) ∷ (mc_within (more - 1)).short (value / 128)
unfolding mc_within
mc_short_more zero value some big = absurd (omega arith)
mc_short_more (suc more) value some big =
    let less : suc more - 1 ≡ more = omega arith in
    let many : nat_lt value 128 ≡ false = grind (arith, nat_tests) in
    let tag : ℕ = 128 + value % 128 in
    let up : nat_lt tag 128 ≡ false = grind (arith, nat_tests) in
    ap
    (λ test. (if test then value else 128 + value % 128)
    ∷ (choose (nat_lt (if test then value else 128 + value % 128) 128) (always {A = ℕ} (if test then value else 128 + value % 128))
    (after_group 128 ((if test then value else 128 + value % 128) - 128) (mc_within more))).short value) many
    ∙ ap (λ test. tag ∷ (choose test (always {A = ℕ} tag) (after_group 128 (tag - 128) (mc_within more))).short value) up
    ∙ ap (λ n. tag ∷ (mc_within n).short (value / 128)) (sym less)

-- what is above a group has one group less
pub above_below : (weight more value : ℕ) → 0 < weight → 0 < more → value < weight ^ more → value / weight < weight ^ (more - 1)
above_below weight zero value positive some below = absurd (omega arith)
above_below weight (suc more) value positive some below =
    let less : suc more - 1 ≡ more = omega arith in
    subst (λ n. value / weight < weight ^ n) (sym less) (div_below value weight (weight ^ more) positive (omega (arith, pow-suc weight more)))

-- and where a number is more than a group there is one left
pub groups_left : (weight more value : ℕ) → 0 < more → weight ≤ value → value < weight ^ more → 0 < more - 1
groups_left weight zero value some big below = absurd (omega arith)
groups_left weight (suc zero) value some big below =
    let one : weight ^ 1 ≡ 1 * weight = pow-suc weight 0 ∙ ap (λ n. n * weight) (pow-zero weight) in
    absurd (omega (arith, one))
groups_left weight (suc (suc more)) value some big below = omega arith

-- a number of one group is written by one byte
pub mc_length_last : (more value : ℕ) → 0 < more → value < 128 → length ((mc_within more).short value) ≡ 1
mc_length_last more value some small = ap length (mc_short_last more value some small)

-- a greater one by one more than the number above the group
pub mc_length_more : (more value : ℕ) → 0 < more → 128 ≤ value → length ((mc_within more).short value) ≡ 1 + length ((mc_within (more - 1)).short (value / 128))
mc_length_more more value some big = omega (arith, ap length (mc_short_more more value some big))

-- the last group of a number is written
pub mc_last_written : (old new : Written) (more value : ℕ) → 0 < more → value < 128 → Extends old new (low_bits 8 value) → Extends old new (bits ((mc_within more).short value))
mc_last_written old new more value some small pushed =
    subst (λ bytes. Extends old new (bits bytes)) (sym (mc_short_last more value some small)) (one_byte_written old new value pushed)

-- a group and the number above it are written
pub mc_more_written : (old mid new : Written) (more value : ℕ) → 0 < more → 128 ≤ value → Extends old mid (low_bits 8 (128 + value % 128))
    → Extends mid new (bits ((mc_within (more - 1)).short (value / 128))) → Extends old new (bits ((mc_within more).short value))
mc_more_written old mid new more value some big first rest =
    subst (λ bytes. Extends old new (bits bytes)) (sym (mc_short_more more value some big))
    (byte_written old mid new (128 + value % 128) ((mc_within (more - 1)).short (value / 128)) first rest)
