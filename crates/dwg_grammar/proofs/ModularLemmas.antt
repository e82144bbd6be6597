-- Modular chars and modular shorts are codes over bytes.
use Rattle.std.proofs.Common.{◌≡◌, refl, sym, ◌∙◌, ap, subst, ℕ, zero, suc, ◌+◌, ◌-◌, ◌*◌, ◌/◌, ◌%◌, ◌^◌, ◌<◌, ◌≤◌, Bool, true, false, length, arith}
use Rattle.std.specs.Prelude.{nat_lt, if◌then◌else◌}
use Rattle.std.specs.Int.{w16, from_le_bytes, to_le_bytes}
use Rattle.std.proofs.Math.Nat.{pow-suc, mul_comm, one-le-pow}
use Rattle.std.proofs.lemmas.Bool.Decides.{nat_tests}
use Rattle.std.proofs.lemmas.Nat.{div_below, div-mul-add, mod-mul-add, div-add-mod', mod_below, le-div}
use Rattle.dwg_base.specs.Bytes.{AreBytes}
use Rattle.dwg_grammar.specs.Grammar.{Grammar, IsCode}
use Rattle.dwg_grammar.specs.Combinators.{one_byte, always, tagged, choose, chain}
use Rattle.dwg_grammar.proofs.CombinatorLemmas.{bytes_closed, one_byte_is_code, always_is_code, never_is_code, choose_is_code, restrict_is_code, struct_is_code, tagged_is_code}
use Rattle.dwg_grammar.proofs.NumberLemmas.{number_is_code, bytes_of_16, number_of_16}
use Rattle.dwg_grammar.specs.ModularCodes.{after_group, mc_within, mc, unit, ms_within, ms}

-- a number of which the quotient is small is small
of_quotient : (value weight limit : ℕ) → 0 < weight → value / weight < limit → value < limit * weight
of_quotient value weight limit some small =
    omega (arith, div-add-mod' value weight, mod_below value weight some, more_rows (value / weight) limit weight small)
  where
    more_rows : (row rows width : ℕ) → row < rows → row * width + width ≤ rows * width
    more_rows row rows width h = grind arith

-- a group and the number above it are distinguished
group_apart : (weight low high : ℕ) → low < weight → ((low + weight * high) / weight ≡ high) × ((low + weight * high) % weight ≡ low)
group_apart weight low high small =
    let turned : low + weight * high ≡ high * weight + low = omega (arith, mul_comm weight high) in
    (ap (λ n. n / weight) turned ∙ div-mul-add high weight low small, ap (λ n. n % weight) turned ∙ mod-mul-add high weight low small)

-- a number is its low group and the number above it
group_joined : (weight low value : ℕ) → value % weight ≡ low → low + weight * (value / weight) ≡ value
group_joined weight low value same = omega (arith, div-add-mod' value weight, mul_comm weight (value / weight))

-- a number after a group is a code
pub after_group_is_code : (weight low : ℕ) (code : Grammar ℕ ℕ) → low < weight → IsCode AreBytes code → IsCode AreBytes (after_group weight low code)
after_group_is_code weight low code small is =
    struct_is_code AreBytes (λ value. (value % weight ≡ low) × code.IsValue (value / weight)) (λ high. low + weight * high) (λ value. value / weight) code is
    (λ high fits. ((group_apart weight low high small).1, subst code.IsValue (sym (group_apart weight low high small).0) fits))
    (λ value fits. (fits.1, group_joined weight low value fits.0))
    (λ high fits. (group_apart weight low high small).0)

-- what follows a group: nothing where its flag is down, and more groups where it is up
abbrev pub group_by : ℕ → Grammar ℕ ℕ → ℕ → Grammar ℕ ℕ
group_by weight more tag = choose (nat_lt tag weight) (always tag) (after_group weight (tag - weight) more)

-- the first group that is written of a number
abbrev pub group_pick : ℕ → ℕ → ℕ
group_pick weight value = if nat_lt value weight then value else weight + value % weight

-- what groups ask of the code of a group and of the code of what is above it
pub record AreGroups (tags more : Grammar ℕ ℕ) (weight limit : ℕ) : Type 0 where
  pub tag_is_code : IsCode AreBytes tags
  pub more_is_code : IsCode AreBytes more
  pub weight_some : 0 < weight
  pub limit_some : 0 < limit
  -- a tag is a group or a group with its flag up, and all are as long
  pub tag_below : (tag : ℕ) → tags.IsValue tag → tag < weight + weight
  pub tag_fits : (tag : ℕ) → tag < weight + weight → tags.IsValue tag
  pub tag_length : (tag other : ℕ) → length (tags.short tag) ≡ length (tags.short other)
  -- what is above a group is below a limit, and all but 0 below that limit can be above it
  pub more_below : (value : ℕ) → more.IsValue value → value < limit
  pub more_fits : (value : ℕ) → 0 < value → value < limit → more.IsValue value

-- what a first group and what follows it spell is below the limit
group_value : (tags more : Grammar ℕ ℕ) (weight limit : ℕ) → AreGroups tags more weight limit → (tag value : ℕ) (low : Bool) → nat_lt tag weight ≡ low
    → (choose low (always tag) (after_group weight (tag - weight) more)).IsValue value → value < limit * weight
group_value tags more weight limit are tag value true is_low fits =
    let small : tag < weight = grind (arith, nat_tests) in
    omega (arith, small, fits, at_least limit weight are.limit_some)
  where
    at_least : (rows width : ℕ) → 0 < rows → width ≤ rows * width
    at_least rows width h = grind arith
group_value tags more weight limit are tag value false is_high fits =
    of_quotient value weight limit are.weight_some (are.more_below (value / weight) fits.1)

-- a number has the first group that is written of it
group_picked : (tags more : Grammar ℕ ℕ) (weight limit : ℕ) → AreGroups tags more weight limit → (value : ℕ) (low : Bool) → nat_lt value weight ≡ low → value < limit * weight
    → tags.IsValue (if low then value else weight + value % weight) × (group_by weight more (if low then value else weight + value % weight)).IsValue value
group_picked tags more weight limit are value true is_low fits =
    let small : value < weight = grind (arith, nat_tests) in (
      are.tag_fits value (omega arith),
      subst (λ test. (choose test (always {A = ℕ} value) (after_group weight (value - weight) more)).IsValue value) (sym is_low) refl,
    )
group_picked tags more weight limit are value false is_high fits =
    let big : weight ≤ value = grind (arith, nat_tests) in
    let tag : ℕ = weight + value % weight in
    let below : value % weight < weight = mod_below value weight are.weight_some in
    let flagged : nat_lt tag weight ≡ false = grind (arith, nat_tests) in (
      are.tag_fits tag (omega arith),
      subst (λ test. (choose test (always {A = ℕ} tag) (after_group weight (tag - weight) more)).IsValue value) (sym flagged)
          (omega arith, are.more_fits (value / weight) (le-div 1 value weight are.weight_some (omega arith)) (div_below value weight limit are.weight_some fits)),
    )

-- no first group is shorter than the one that is written, with what follows it
group_least : (tags more : Grammar ℕ ℕ) (weight limit : ℕ) → AreGroups tags more weight limit → (value tag : ℕ) (low : Bool) → nat_lt value weight ≡ low
    → (flag : Bool) → nat_lt tag weight ≡ flag → (choose flag (always tag) (after_group weight (tag - weight) more)).IsValue value
    → length (tags.short (if low then value else weight + value % weight)) + length ((group_by weight more (if low then value else weight + value % weight)).short value)
    ≤ length (tags.short tag) + length ((group_by weight more tag).short value)
group_least tags more weight limit are value tag true is_low flag is_flag fits =
    let none : length ((choose (nat_lt value weight) (always {A = ℕ} value) (after_group weight (value - weight) more)).short value) ≡ 0 =
    ap (λ test. length ((choose test (always {A = ℕ} value) (after_group weight (value - weight) more)).short value)) is_low in
    omega (arith, none, are.tag_length value tag)
group_least tags more weight limit are value tag false is_high true is_flag fits = absurd (grind (arith, nat_tests))
group_least tags more weight limit are value tag false is_high false is_flag fits =
    let big : weight ≤ tag = grind (arith, nat_tests) in
    let same : tag ≡ weight + value % weight = omega (arith, fits.0) in
    subst
    (λ t. length (tags.short t) + length ((group_by weight more t).short value) ≤ length (tags.short tag) + length ((group_by weight more tag).short value))
    same (omega arith)

-- groups are a code
pub groups_is_code : (tags more : Grammar ℕ ℕ) (weight limit above : ℕ) → above ≡ limit * weight → AreGroups tags more weight limit
    → IsCode AreBytes (tagged tags (group_by weight more) (λ value. value < above) (group_pick weight))
groups_is_code tags more weight limit above same are =
    subst (λ bound. IsCode AreBytes (tagged tags (group_by weight more) (λ value. value < bound) (group_pick weight))) (sym same)
    (tagged_is_code AreBytes tags (group_by weight more) (λ value. value < limit * weight) (group_pick weight) bytes_closed are.tag_is_code
    (λ tag fits. choose_is_code AreBytes (nat_lt tag weight) (always tag) (after_group weight (tag - weight) more) (λ low. always_is_code AreBytes tag)
    (λ high. after_group_is_code weight (tag - weight) more (rest_below tag (are.tag_below tag fits)) are.more_is_code))
    (λ tag value tag_fits fits. group_value tags more weight limit are tag value (nat_lt tag weight) refl fits)
    (λ value fits. group_picked tags more weight limit are value (nat_lt value weight) refl fits)
    (λ tag value tag_fits fits. group_least tags more weight limit are value tag (nat_lt value weight) refl (nat_lt tag weight) refl fits))
  where
    rest_below : (tag : ℕ) → tag < weight + weight → tag - weight < weight
    rest_below tag h = omega (arith, are.weight_some)

-- what is spelled by so many bytes has so many groups
mc_value : (count value : ℕ) → (mc_within count).IsValue value → value < 128 ^ count
unfolding mc_within
mc_value zero value fits = absurd fits
mc_value (suc more) value fits = fits

-- and all but 0 below that have a spelling there
mc_fits : (count value : ℕ) → 0 < value → value < 128 ^ count → (mc_within count).IsValue value
unfolding mc_within
mc_fits zero value some fits = absurd (omega arith)
mc_fits (suc more) value some fits = fits

-- an MC of at most so many bytes is a code
pub mc_within_is_code : (count : ℕ) → IsCode AreBytes (mc_within count)
unfolding mc_within
mc_within_is_code zero = never_is_code AreBytes
mc_within_is_code (suc more) = groups_is_code one_byte (mc_within more) 128 (128 ^ more) (128 ^ suc more) (pow-suc 128 more) (record {
  tag_is_code = one_byte_is_code;
  more_is_code = mc_within_is_code more;
  weight_some = omega arith;
  limit_some = one-le-pow more 128 (omega arith);
  tag_below = λ tag fits. fits;
  tag_fits = λ tag fits. fits;
  tag_length = λ tag other. refl;
  more_below = mc_value more;
  more_fits = mc_fits more;
})

-- an MC is a code
pub mc_is_code : IsCode AreBytes mc
mc_is_code = restrict_is_code AreBytes (λ value. nat_lt value (2 ^ 63)) (mc_within 10) (mc_within_is_code 10)

-- the values of an MC are the numbers below 2^63
pub mc_below : (value : ℕ) → mc.IsValue value → value < 2 ^ 63
mc_below value fits = let passed : nat_lt value (2 ^ 63) ≡ true = fits.0 in grind (arith, nat_tests)

-- and each of them is one
pub mc_has : (value : ℕ) → value < 2 ^ 63 → mc.IsValue value
unfolding mc_within
mc_has value small = (grind (arith, nat_tests), omega arith)

-- a unit is a code
pub unit_is_code : IsCode AreBytes unit
unit_is_code =
    number_is_code AreBytes one_byte 2 (2 ^ 16) (from_le_bytes w16) (to_le_bytes w16) bytes_closed one_byte_is_code (λ value h. h) (λ value h. h) bytes_of_16 number_of_16

-- a unit has two bytes
pub length_of_unit : (value : ℕ) → length (unit.short value) ≡ 2
unfolding chain
length_of_unit value = refl

-- what is spelled by so many units has so many groups
ms_value : (count value : ℕ) → (ms_within count).IsValue value → value < 32768 ^ count
unfolding ms_within
ms_value zero value fits = absurd fits
ms_value (suc more) value fits = fits

-- and all but 0 below that have a spelling there
ms_fits : (count value : ℕ) → 0 < value → value < 32768 ^ count → (ms_within count).IsValue value
unfolding ms_within
ms_fits zero value some fits = absurd (omega arith)
ms_fits (suc more) value some fits = fits

-- an MS of at most so many units is a code
pub ms_within_is_code : (count : ℕ) → IsCode AreBytes (ms_within count)
unfolding ms_within
ms_within_is_code zero = never_is_code AreBytes
ms_within_is_code (suc more) = groups_is_code unit (ms_within more) 32768 (32768 ^ more) (32768 ^ suc more) (pow-suc 32768 more) (record {
  tag_is_code = unit_is_code;
  more_is_code = ms_within_is_code more;
  weight_some = omega arith;
  limit_some = one-le-pow more 32768 (omega arith);
  tag_below = λ tag fits. fits;
  tag_fits = λ tag fits. fits;
  tag_length = λ tag other. length_of_unit tag ∙ sym (length_of_unit other);
  more_below = ms_value more;
  more_fits = ms_fits more;
})

-- an MS is a code
pub ms_is_code : IsCode AreBytes ms
ms_is_code = ms_within_is_code 4

-- the values of an MS are the numbers below 2^60
pub ms_below : (value : ℕ) → ms.IsValue value → value < 2 ^ 60
unfolding ms_within
ms_below value fits = fits

-- and each of them is one
pub ms_has : (value : ℕ) → value < 2 ^ 60 → ms.IsValue value
unfolding ms_within
ms_has value small = small
