-- A DD with a default is a code.
use Rattle.std.proofs.Common.{◌≡◌, refl, ap₂, ℕ, zero, suc, ◌+◌, ◌*◌, ◌/◌, ◌%◌, ◌^◌, ◌<◌, ◌≤◌, Bool, true, false, ◌++◌, length, arith}
use Rattle.std.specs.Prelude.{◌==◌, if◌then◌else◌}
use Rattle.std.proofs.lemmas.Bool.Decides.{nat_tests, Decides-eqb}
use Rattle.std.proofs.lemmas.List.{length-append}
use Rattle.dwg_grammar.specs.Grammar.{IsCode, AnyLetters}
use Rattle.dwg_grammar.specs.Combinators.{seq}
use Rattle.dwg_grammar.proofs.CombinatorLemmas.{any_letters_closed, always_is_code, never_is_code, seq_is_code, struct_is_code}
use Rattle.dwg_grammar.specs.Codes.{rc, rl, dd_by, dd}
use Rattle.dwg_grammar.proofs.NumberLemmas.{rc_is_code, rl_is_code, rd_is_code, length_of_rc, length_of_rl, length_of_rd}
use Rattle.dwg_grammar.proofs.TableLemmas.{bit_tagged_is_code}

-- a number with its low half replaced
half_replaced : (default low : ℕ) → default < 2 ^ 64 → low < 2 ^ 32
    → (default / 2 ^ 32 * 2 ^ 32 + low < 2 ^ 64) × ((default / 2 ^ 32 * 2 ^ 32 + low) / 2 ^ 32 ≡ default / 2 ^ 32) × ((default / 2 ^ 32 * 2 ^ 32 + low) % 2 ^ 32 ≡ low)
half_replaced default low fits small = (omega arith, omega arith, omega arith)

-- a number with the six low bytes replaced
bytes_replaced : (default fifth sixth low : ℕ) → default < 2 ^ 64 → fifth < 2 ^ 8 → sixth < 2 ^ 8 → low < 2 ^ 32
    → let value = default / 2 ^ 48 * 2 ^ 48 + sixth * 2 ^ 40 + fifth * 2 ^ 32 + low in
    (value < 2 ^ 64) × (value / 2 ^ 48 ≡ default / 2 ^ 48) × (value / 2 ^ 32 % 2 ^ 8 ≡ fifth) × (value / 2 ^ 40 % 2 ^ 8 ≡ sixth) × (value % 2 ^ 32 ≡ low)
bytes_replaced default fifth sixth low fits fifth_fits sixth_fits small = (omega arith, omega arith, omega arith, omega arith, omega arith)

-- a number by its two high bytes and the six low ones
bytes_apart : (default value : ℕ) → value / 2 ^ 48 ≡ default / 2 ^ 48
    → default / 2 ^ 48 * 2 ^ 48 + value / 2 ^ 40 % 2 ^ 8 * 2 ^ 40 + value / 2 ^ 32 % 2 ^ 8 * 2 ^ 32 + value % 2 ^ 32 ≡ value
bytes_apart default value same = omega arith

-- what follows each tag of a DD is a code
dd_by_is_code : (default : ℕ) → default < 2 ^ 64 → (tag : ℕ) → IsCode AnyLetters (dd_by default tag)
dd_by_is_code default small zero = always_is_code AnyLetters default
dd_by_is_code default small (suc zero) =
    struct_is_code AnyLetters (λ (value : ℕ). (value < 2 ^ 64) × (value / 2 ^ 32 ≡ default / 2 ^ 32)) (λ (low : ℕ). default / 2 ^ 32 * 2 ^ 32 + low) (λ (value : ℕ). value % 2 ^ 32)
    rl rl_is_code
    (λ low fits. let made = half_replaced default low small fits in (made.0, made.1))
    (λ value fits. (omega arith, omega arith))
    (λ low fits. (half_replaced default low small fits).2)
dd_by_is_code default small (suc (suc zero)) =
    struct_is_code AnyLetters (λ (value : ℕ). (value < 2 ^ 64) × (value / 2 ^ 48 ≡ default / 2 ^ 48))
    (λ (parts : ℕ × (ℕ × ℕ)). default / 2 ^ 48 * 2 ^ 48 + parts.1.0 * 2 ^ 40 + parts.0 * 2 ^ 32 + parts.1.1)
    (λ (value : ℕ). (value / 2 ^ 32 % 2 ^ 8, (value / 2 ^ 40 % 2 ^ 8, value % 2 ^ 32)))
    (seq rc (λ fifth. seq rc (λ sixth. rl)))
    (seq_is_code AnyLetters rc (λ fifth. seq rc (λ sixth. rl)) any_letters_closed rc_is_code
    (λ fifth fits. seq_is_code AnyLetters rc (λ sixth. rl) any_letters_closed rc_is_code (λ sixth fits. rl_is_code)))
    (λ parts fits. let made = bytes_replaced default parts.0 parts.1.0 parts.1.1 small fits.0 fits.1.0 fits.1.1 in (made.0, made.1))
    (λ value fits. ((omega arith, (omega arith, omega arith)), bytes_apart default value fits.1))
    (λ parts fits. let made = bytes_replaced default parts.0 parts.1.0 parts.1.1 small fits.0 fits.1.0 fits.1.1 in
    ap₂ (λ (fifth : ℕ) (others : ℕ × ℕ). (fifth, others)) made.2 (ap₂ (λ (sixth low : ℕ). (sixth, low)) made.3 made.4))
dd_by_is_code default small (suc (suc (suc zero))) = rd_is_code
dd_by_is_code default small (suc (suc (suc (suc tag)))) = never_is_code AnyLetters

-- and its values have 64 bits
dd_by_value : (default : ℕ) → default < 2 ^ 64 → (tag value : ℕ) → (dd_by default tag).IsValue value → value < 2 ^ 64
dd_by_value default small zero value fits = omega arith
dd_by_value default small (suc zero) value fits = fits.0
dd_by_value default small (suc (suc zero)) value fits = fits.0
dd_by_value default small (suc (suc (suc zero))) value fits = fits
dd_by_value default small (suc (suc (suc (suc tag)))) value fits = absurd fits

-- the tag that is written of a DD, by what the tests say
abbrev dd_tag_by : Bool → Bool → Bool → ℕ
dd_tag_by same high top = if same then 0 else (if high then 1 else (if top then 2 else 3))

-- a value has the tag that is written of it
dd_picked : (default value : ℕ) (same high top : Bool) → (value == default) ≡ same → (value / 2 ^ 32 == default / 2 ^ 32) ≡ high → (value / 2 ^ 48 == default / 2 ^ 48) ≡ top
    → value < 2 ^ 64 → (dd_tag_by same high top < 2 ^ 2) × (dd_by default (dd_tag_by same high top)).IsValue value
dd_picked default value true high top is_same is_high is_top fits = (omega arith, grind (arith, nat_tests))
dd_picked default value false true top is_same is_high is_top fits = (omega arith, (fits, (Decides-eqb (value / 2 ^ 32) (default / 2 ^ 32)).0 is_high))
dd_picked default value false false true is_same is_high is_top fits = (omega arith, (fits, (Decides-eqb (value / 2 ^ 48) (default / 2 ^ 48)).0 is_top))
dd_picked default value false false false is_same is_high is_top fits = (omega arith, fits)

-- how many bits follow each tag
dd_by_length : (default tag value : ℕ) → tag < 4 → length ((dd_by default tag).short value) ≡ (if tag == 0 then 0 else (if tag == 1 then 32 else (if tag == 2 then 48 else 64)))
dd_by_length default zero value in_range = refl
dd_by_length default (suc zero) value in_range = length_of_rl (value % 2 ^ 32)
dd_by_length default (suc (suc zero)) value in_range =
    let fifth : ℕ = value / 2 ^ 32 % 2 ^ 8 in
    let sixth : ℕ = value / 2 ^ 40 % 2 ^ 8 in
    let low : ℕ = value % 2 ^ 32 in
    omega (arith, length-append (rc.short fifth) (rc.short sixth ++ rl.short low), length-append (rc.short sixth) (rl.short low), length_of_rc fifth, length_of_rc sixth, length_of_rl low)
dd_by_length default (suc (suc (suc zero))) value in_range = length_of_rd value
dd_by_length default (suc (suc (suc (suc tag)))) value in_range = absurd (omega arith)

-- after the tag that is written there are no more bits than after another
dd_least : (default value tag : ℕ) (same high top : Bool) → (value == default) ≡ same → (value / 2 ^ 32 == default / 2 ^ 32) ≡ high → (value / 2 ^ 48 == default / 2 ^ 48) ≡ top
    → (dd_by default tag).IsValue value → length ((dd_by default (dd_tag_by same high top)).short value) ≤ length ((dd_by default tag).short value)
dd_least default value tag true high top is_same is_high is_top fits = omega arith
dd_least default value zero false high top is_same is_high is_top fits = absurd (grind (arith, nat_tests))
dd_least default value (suc zero) false true top is_same is_high is_top fits = omega arith
dd_least default value (suc (suc zero)) false true top is_same is_high is_top fits =
    omega (arith, dd_by_length default 1 value (omega arith), dd_by_length default 2 value (omega arith))
dd_least default value (suc (suc (suc zero))) false true top is_same is_high is_top fits =
    omega (arith, dd_by_length default 1 value (omega arith), dd_by_length default 3 value (omega arith))
dd_least default value (suc (suc (suc (suc tag)))) false high top is_same is_high is_top fits = absurd fits
dd_least default value (suc zero) false false top is_same is_high is_top fits = absurd (cc (is_high, (Decides-eqb (value / 2 ^ 32) (default / 2 ^ 32)).1 fits.1))
dd_least default value (suc (suc zero)) false false true is_same is_high is_top fits = omega arith
dd_least default value (suc (suc (suc zero))) false false true is_same is_high is_top fits =
    omega (arith, dd_by_length default 2 value (omega arith), dd_by_length default 3 value (omega arith))
dd_least default value (suc (suc zero)) false false false is_same is_high is_top fits = absurd (cc (is_top, (Decides-eqb (value / 2 ^ 48) (default / 2 ^ 48)).1 fits.1))
dd_least default value (suc (suc (suc zero))) false false false is_same is_high is_top fits = omega arith

-- a DD is a code for each default of 64 bits
pub dd_is_code : (default : ℕ) → default < 2 ^ 64 → IsCode AnyLetters (dd default)
dd_is_code default small =
    bit_tagged_is_code 2 (dd_by default) (λ value. value < 2 ^ 64)
    (λ value. dd_tag_by (value == default) (value / 2 ^ 32 == default / 2 ^ 32) (value / 2 ^ 48 == default / 2 ^ 48))
    (λ tag in_range. dd_by_is_code default small tag) (λ tag value in_range fits. dd_by_value default small tag value fits)
    (λ value fits. dd_picked default value (value == default) (value / 2 ^ 32 == default / 2 ^ 32) (value / 2 ^ 48 == default / 2 ^ 48) refl refl refl fits)
    (λ tag value in_range fits.
    dd_least default value tag (value == default) (value / 2 ^ 32 == default / 2 ^ 32) (value / 2 ^ 48 == default / 2 ^ 48) refl refl refl fits)
