-- Signed modular chars are a code over bytes.
use Rattle.std.proofs.Common.{◌≡◌, refl, sym, ap, ap₂, subst, ℕ, zero, suc, ◌+◌, ◌-◌, ◌*◌, ◌/◌, ◌%◌, ◌^◌, ◌<◌, ◌≤◌, Bool, true, false, length, arith}
use Rattle.std.specs.Prelude.{ℤ, pos, negsuc, nat_lt, if◌then◌else◌}
use Rattle.std.proofs.Math.Nat.{pow-suc, one-le-pow}
use Rattle.std.proofs.lemmas.Bool.Decides.{nat_tests}
use Rattle.dwg_base.specs.Bytes.{AreBytes}
use Rattle.dwg_grammar.specs.Grammar.{Grammar, IsCode}
use Rattle.dwg_grammar.specs.Combinators.{one_byte, always, tagged, choose, image, restrict}
use Rattle.dwg_grammar.proofs.CombinatorLemmas.{bytes_closed, one_byte_is_code, always_is_code, never_is_code, choose_is_code, restrict_is_code, image_is_code, struct_is_code, tagged_is_code}
use Rattle.dwg_grammar.specs.ModularCodes.{Signed, last_of, signed_mc_within, signed_number, sign_and_magnitude, signed_mc}

-- a signed number after a group of 7 bits: the group's value bits, and the number that follows as what is above them
abbrev pub after_signed : ℕ → Grammar ℕ Signed → Grammar ℕ Signed
after_signed low more =
    image (λ value. (value.1 % 128 ≡ low) × more.IsValue (value.0, value.1 / 128)) (λ high. (high.0, low + 128 * high.1)) (λ value. (value.0, value.1 / 128)) more

-- what follows a byte: nothing where its flag is down, and more bytes where it is up
abbrev pub signed_by : Grammar ℕ Signed → ℕ → Grammar ℕ Signed
signed_by more byte = choose (nat_lt byte 128) (always (last_of byte)) (after_signed (byte - 128) more)

-- the first byte that is written of a signed number, by what the tests say
abbrev pub signed_byte : Bool → Bool → ℕ → ℕ
signed_byte last negative magnitude = if last then (if negative then 64 + magnitude else magnitude) else 128 + magnitude % 128

-- a signed number after a group is a code
pub after_signed_is_code : (low : ℕ) (more : Grammar ℕ Signed) → low < 128 → IsCode AreBytes more → IsCode AreBytes (after_signed low more)
after_signed_is_code low more small is =
    struct_is_code AreBytes (λ (value : Signed). (value.1 % 128 ≡ low) × more.IsValue (value.0, value.1 / 128)) (λ (high : Signed). (high.0, low + 128 * high.1))
    (λ (value : Signed). (value.0, value.1 / 128)) more is
    (λ high fits. (group_of low high.1 small, subst (λ (n : ℕ). more.IsValue (high.0, n)) (sym (above_of low high.1 small)) fits))
    (λ value fits. (fits.1, ap (λ (n : ℕ). (value.0, n)) (joined low value.1 fits.0)))
    (λ high fits. ap (λ (n : ℕ). (high.0, n)) (above_of low high.1 small))
  where
    group_of : (low high : ℕ) → low < 128 → (low + 128 * high) % 128 ≡ low
    group_of low high h = omega arith

    above_of : (low high : ℕ) → low < 128 → (low + 128 * high) / 128 ≡ high
    above_of low high h = omega arith

    joined : (low magnitude : ℕ) → magnitude % 128 ≡ low → low + 128 * (magnitude / 128) ≡ magnitude
    joined low magnitude h = omega arith

-- what signed groups ask of the code of what is above a group
pub record AreSigned (more : Grammar ℕ Signed) (limit : ℕ) : Type 0 where
  pub more_is_code : IsCode AreBytes more
  pub limit_some : 0 < limit
  -- with a group below it, what is above a group is below the limit; and what stays below it can be above a group, where there is room for one
  pub more_below : (value : Signed) → more.IsValue value → 128 * value.1 + 128 ≤ 64 * limit
  pub more_fits : (value : Signed) → 1 < limit → 128 * value.1 < 64 * limit → more.IsValue value

-- what a first byte and what follows it spell has a magnitude below the limit
signed_value : (more : Grammar ℕ Signed) (limit : ℕ) → AreSigned more limit → (byte : ℕ) (value : Signed) (last : Bool)
    → (choose last (always (last_of byte)) (after_signed (byte - 128) more)).IsValue value → value.1 < 64 * limit
signed_value more limit are byte value true fits =
    let magnitude : value.1 ≡ byte % 64 = ap (λ (v : Signed). v.1) fits in
    omega (arith, magnitude, are.limit_some)
signed_value more limit are byte value false fits = omega (arith, are.more_below (value.0, value.1 / 128) fits.1)

-- a signed number has the first byte that is written of it
signed_picked : (more : Grammar ℕ Signed) (limit : ℕ) → AreSigned more limit → (negative : Bool) (magnitude : ℕ) (last : Bool) → nat_lt magnitude 64 ≡ last → magnitude < 64 * limit
    → (signed_byte last negative magnitude < 2 ^ 8) × (signed_by more (signed_byte last negative magnitude)).IsValue (negative, magnitude)
signed_picked more limit are true magnitude true is_last fits =
    let small : magnitude < 64 = grind (arith, nat_tests) in
    let low : nat_lt (64 + magnitude) 128 ≡ true = grind (arith, nat_tests) in
    let sign : true ≡ nat_lt 63 (64 + magnitude) = grind (arith, nat_tests) in
    let rest : magnitude ≡ (64 + magnitude) % 64 = omega arith in (
      omega arith,
      subst (λ test. (choose test (always (last_of (64 + magnitude))) (after_signed (64 + magnitude - 128) more)).IsValue (true, magnitude)) (sym low)
          (ap₂ (λ (s : Bool) (m : ℕ). let v : Signed = (s, m) in v) sign rest),
    )
signed_picked more limit are false magnitude true is_last fits =
    let small : magnitude < 64 = grind (arith, nat_tests) in
    let low : nat_lt magnitude 128 ≡ true = grind (arith, nat_tests) in
    let sign : false ≡ nat_lt 63 magnitude = grind (arith, nat_tests) in
    let rest : magnitude ≡ magnitude % 64 = omega arith in (
      omega arith,
      subst (λ test. (choose test (always (last_of magnitude)) (after_signed (magnitude - 128) more)).IsValue (false, magnitude)) (sym low)
          (ap₂ (λ (s : Bool) (m : ℕ). let v : Signed = (s, m) in v) sign rest),
    )
signed_picked more limit are negative magnitude false is_more fits =
    let big : 64 ≤ magnitude = grind (arith, nat_tests) in
    let byte : ℕ = 128 + magnitude % 128 in
    let flagged : nat_lt byte 128 ≡ false = grind (arith, nat_tests) in (
      omega arith,
      subst (λ test. (choose test (always (last_of byte)) (after_signed (byte - 128) more)).IsValue (negative, magnitude)) (sym flagged)
          (omega arith, are.more_fits (negative, magnitude / 128) (omega arith) (omega arith)),
    )

-- no first byte is shorter than the one that is written, with what follows it
signed_least : (more : Grammar ℕ Signed) (byte : ℕ) (negative : Bool) (magnitude : ℕ) (last : Bool) → nat_lt magnitude 64 ≡ last
    → (low : Bool) → nat_lt byte 128 ≡ low → (choose low (always (last_of byte)) (after_signed (byte - 128) more)).IsValue (negative, magnitude)
    → length ((signed_by more (signed_byte last negative magnitude)).short (negative, magnitude)) ≤ length ((signed_by more byte).short (negative, magnitude))
signed_least more byte true magnitude true is_last low is_low fits =
    let first : nat_lt (64 + magnitude) 128 ≡ true = grind (arith, nat_tests) in
    let none : length ((signed_by more (64 + magnitude)).short (true, magnitude)) ≡ 0 =
    ap (λ test. length ((choose test (always (last_of (64 + magnitude))) (after_signed (64 + magnitude - 128) more)).short (true, magnitude))) first in
    omega (arith, none)
signed_least more byte false magnitude true is_last low is_low fits =
    let first : nat_lt magnitude 128 ≡ true = grind (arith, nat_tests) in
    let none : length ((signed_by more magnitude).short (false, magnitude)) ≡ 0 =
    ap (λ test. length ((choose test (always (last_of magnitude)) (after_signed (magnitude - 128) more)).short (false, magnitude))) first in
    omega (arith, none)
signed_least more byte negative magnitude false is_more true is_low fits =
    let rest : magnitude ≡ byte % 64 = ap (λ (v : Signed). v.1) fits in
    let big : 64 ≤ magnitude = grind (arith, nat_tests) in
    absurd (omega arith)
signed_least more byte negative magnitude false is_more false is_high fits =
    let big : 128 ≤ byte = grind (arith, nat_tests) in
    let group : magnitude % 128 ≡ byte - 128 = fits.0 in
    let same : byte ≡ 128 + magnitude % 128 = omega arith in
    subst (λ b. length ((signed_by more b).short (negative, magnitude)) ≤ length ((signed_by more byte).short (negative, magnitude))) same (omega arith)

-- a byte with a sign, or a byte and a signed number above it, are a code
pub signed_groups_is_code : (more : Grammar ℕ Signed) (limit : ℕ) → AreSigned more limit
    → IsCode AreBytes (tagged one_byte (signed_by more) (λ (value : Signed). value.1 < 64 * limit) (λ (value : Signed). signed_byte (nat_lt value.1 64) value.0 value.1))
signed_groups_is_code more limit are =
    tagged_is_code AreBytes one_byte (signed_by more) (λ (value : Signed). value.1 < 64 * limit) (λ (value : Signed). signed_byte (nat_lt value.1 64) value.0 value.1)
    bytes_closed one_byte_is_code
    (λ byte fits. choose_is_code AreBytes (nat_lt byte 128) (always (last_of byte)) (after_signed (byte - 128) more) (λ low. always_is_code AreBytes (last_of byte))
    (λ high. after_signed_is_code (byte - 128) more (rest_below byte fits) are.more_is_code))
    (λ byte value byte_fits fits. signed_value more limit are byte value (nat_lt byte 128) fits)
    (λ value fits. signed_picked more limit are value.0 value.1 (nat_lt value.1 64) refl fits)
    (λ byte value byte_fits fits. one_more byte value (signed_least more byte value.0 value.1 (nat_lt value.1 64) refl (nat_lt byte 128) refl fits))
  where
    rest_below : (byte : ℕ) → byte < 2 ^ 8 → byte - 128 < 128
    rest_below byte h = omega arith

    one_more : (byte : ℕ) (value : Signed)
        → length ((signed_by more (signed_byte (nat_lt value.1 64) value.0 value.1)).short value) ≤ length ((signed_by more byte).short value)
        → 1 + length ((signed_by more (signed_byte (nat_lt value.1 64) value.0 value.1)).short value) ≤ 1 + length ((signed_by more byte).short value)
    one_more byte value less = omega arith

-- what is spelled by so many bytes has so many groups, and six bits in the last
signed_below : (count : ℕ) (value : Signed) → (signed_mc_within count).IsValue value → 128 * value.1 + 128 ≤ 64 * 128 ^ count
unfolding signed_mc_within
signed_below zero value fits = absurd fits
signed_below (suc more) value fits = omega (arith, pow-suc 128 more)

-- and magnitudes with room for a group below them have a spelling there
signed_fits : (count : ℕ) (value : Signed) → 1 < 128 ^ count → 128 * value.1 < 64 * 128 ^ count → (signed_mc_within count).IsValue value
unfolding signed_mc_within
signed_fits zero value some fits = absurd (omega arith)
signed_fits (suc more) value some fits = omega (arith, pow-suc 128 more)

-- a signed MC of at most so many bytes is a code
pub signed_mc_within_is_code : (count : ℕ) → IsCode AreBytes (signed_mc_within count)
unfolding signed_mc_within
signed_mc_within_is_code zero = never_is_code AreBytes
signed_mc_within_is_code (suc more) = signed_groups_is_code (signed_mc_within more) (128 ^ more) (record {
  more_is_code = signed_mc_within_is_code more;
  limit_some = one-le-pow more 128 (omega arith);
  more_below = signed_below more;
  more_fits = signed_fits more;
})

-- a number that is written by its sign and magnitude is that number
number_again : (value : ℤ) → signed_number (sign_and_magnitude value) ≡ value
number_again (pos magnitude) = refl
number_again (negsuc less) = refl

-- the magnitude of a number is the one that was read
magnitude_again : (value : Signed) → (sign_and_magnitude (signed_number value)).1 ≡ value.1
magnitude_again (false, magnitude) = refl
magnitude_again (true, zero) = refl
magnitude_again (true, suc less) = refl

-- a magnitude below 2^63 has room in ten bytes
room_of_ten : (value : Signed) → value.1 < 2 ^ 63 → (signed_mc_within 10).IsValue value
unfolding signed_mc_within
room_of_ten value fits = omega arith

-- a negative zero is no shorter than zero
negative_zero : length ((signed_mc_within 10).short (false, 0)) ≤ length ((signed_mc_within 10).short (true, 0))
unfolding signed_mc_within
negative_zero = omega arith

-- so what is written of a number is no longer than any of its signs and magnitudes
zero_least : (value : Signed)
    → length ((signed_mc_within 10).short (sign_and_magnitude (signed_number value))) ≤ length ((signed_mc_within 10).short value)
zero_least (false, magnitude) = omega arith
zero_least (true, zero) = negative_zero
zero_least (true, suc less) = omega arith

-- a signed MC is a code
pub signed_mc_is_code : IsCode AreBytes signed_mc
signed_mc_is_code =
    image_is_code AreBytes (λ value. (sign_and_magnitude value).1 < 2 ^ 63) signed_number sign_and_magnitude
    (restrict (λ (value : Signed). nat_lt value.1 (2 ^ 63)) (signed_mc_within 10))
    (restrict_is_code AreBytes (λ (value : Signed). nat_lt value.1 (2 ^ 63)) (signed_mc_within 10) (signed_mc_within_is_code 10))
    (λ value fits. in_range value fits.0)
    (λ value fits. ((grind (arith, nat_tests), room_of_ten (sign_and_magnitude value) fits), number_again value))
    (λ value fits. zero_least value)
  where
    in_range : (value : Signed) → nat_lt value.1 (2 ^ 63) ≡ true → (sign_and_magnitude (signed_number value)).1 < 2 ^ 63
    in_range value passed =
        let small : value.1 < 2 ^ 63 = grind (arith, nat_tests) in
        omega (arith, magnitude_again value)
