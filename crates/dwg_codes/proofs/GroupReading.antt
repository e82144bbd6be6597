-- Groups of value bits, read one by one.
use Rattle.std.proofs.Common.{◌≡◌, refl, ◌∙◌, ap, subst, ℕ, zero, suc, ◌+◌, ◌-◌, ◌*◌, ◌^◌, ◌<◌, ◌≤◌, true, false, List, [], ◌∷◌, length, Option, Some, None, arith}
use Rattle.std.specs.Prelude.{nat_lt}
use Rattle.std.specs.Option.{option_map}
use Rattle.std.proofs.Math.Nat.{pow-suc, one-le-pow, pow-le-pow_right}
use Rattle.std.proofs.lemmas.Bool.Decides.{nat_tests}
use Rattle.dwg_grammar.specs.Grammar.{Grammar}
use Rattle.dwg_grammar.specs.Combinators.{always, choose}
use Rattle.dwg_grammar.specs.ModularCodes.{after_group, mc_within}

-- what is parsed after a group
pub after_parse : (weight low : ℕ) (code : Grammar ℕ ℕ) (rest : List ℕ) (found : Option (ℕ × List ℕ)) → code.parse rest ≡ found
    → (after_group weight low code).parse rest ≡ option_map (λ (one : ℕ × List ℕ). (low + weight * one.0, one.1)) found
after_parse weight low code rest found same = ap (option_map (λ (one : ℕ × List ℕ). (low + weight * one.0, one.1))) same

-- nothing is parsed of no bytes
pub mc_of_none : (more : ℕ) (bytes : List ℕ) → length bytes ≡ 0 → (mc_within more).parse bytes ≡ None
unfolding mc_within
mc_of_none zero bytes none = refl
mc_of_none (suc more) [] none = refl
mc_of_none (suc more) (byte ∷ bytes) none = absurd (omega (arith, none))

-- nor in no groups
pub mc_in_none : (more : ℕ) (bytes : List ℕ) → more ≡ 0 → (mc_within more).parse bytes ≡ None
unfolding mc_within
mc_in_none zero bytes none = refl
mc_in_none (suc more) bytes none = absurd (omega (arith, none))

-- a byte with its flag down is the last
pub mc_last : (more byte : ℕ) (rest : List ℕ) → 0 < more → byte < 128 → (mc_within more).parse (byte ∷ rest) ≡ Some (byte, rest)
unfolding mc_within
mc_last zero byte rest some small = absurd (omega arith)
mc_last (suc more) byte rest some small =
    let down : nat_lt byte 128 ≡ true = grind (arith, nat_tests) in
    ap (λ test. (choose test (always {A = ℕ} byte) (after_group 128 (byte - 128) (mc_within more))).parse rest) down

-- after a byte with its flag up stands the number above it
mc_after : (more byte : ℕ) (rest : List ℕ) (found : Option (ℕ × List ℕ)) → 0 < more → 128 ≤ byte → (mc_within (more - 1)).parse rest ≡ found
    → (mc_within more).parse (byte ∷ rest) ≡ option_map (λ (one : ℕ × List ℕ). (byte - 128 + 128 * one.0, one.1)) found
unfolding mc_within
mc_after zero byte rest found some big same = absurd (omega arith)
mc_after (suc more) byte rest found some big same =
    let up : nat_lt byte 128 ≡ false = grind (arith, nat_tests) in
    let less : suc more - 1 ≡ more = omega arith in
    ap (λ test. (choose test (always {A = ℕ} byte) (after_group 128 (byte - 128) (mc_within more))).parse rest) up
    ∙ after_parse 128 (byte - 128) (mc_within more) rest found (subst (λ n. (mc_within n).parse rest ≡ found) less same)

-- nothing where no number stands there
pub mc_cut : (more byte : ℕ) (rest : List ℕ) → 0 < more → 128 ≤ byte → (mc_within (more - 1)).parse rest ≡ None → (mc_within more).parse (byte ∷ rest) ≡ None
mc_cut more byte rest some big same = mc_after more byte rest None some big same

-- and the group and that number where one does
pub mc_more : (more byte high : ℕ) (rest left : List ℕ) → 0 < more → 128 ≤ byte → (mc_within (more - 1)).parse rest ≡ Some (high, left)
    → (mc_within more).parse (byte ∷ rest) ≡ Some (byte - 128 + 128 * high, left)
mc_more more byte high rest left some big same = mc_after more byte rest (Some (high, left)) some big same

-- a group below a limit of groups is below one more
pub group_below : (weight more low high : ℕ) → 0 < more → low < weight → high < weight ^ (more - 1) → low + weight * high < weight ^ more
group_below weight zero low high some small below = absurd (omega arith)
group_below weight (suc more) low high some small below =
    let less : suc more - 1 ≡ more = omega arith in
    let above : high + 1 ≤ weight ^ more = omega (arith, subst (λ n. high < weight ^ n) less below) in
    omega (arith, pow-suc weight more, more_rows high (weight ^ more) weight above)
  where
    more_rows : (row rows width : ℕ) → row + 1 ≤ rows → width * row + width ≤ rows * width
    more_rows row rows width h = grind arith

-- a last group is below every limit of groups
pub last_below : (weight more low : ℕ) → 0 < more → low < weight → low < weight ^ more
last_below weight zero low some small = absurd (omega arith)
last_below weight (suc more) low some small =
    omega (arith, pow-suc weight more, more_rows (weight ^ more) weight (one-le-pow more weight (omega arith)))
  where
    more_rows : (rows width : ℕ) → 1 ≤ rows → width ≤ rows * width
    more_rows rows width h = grind arith

-- numbers of at most ten groups of seven bits are small
pub ten_groups : (more high : ℕ) → more ≤ 10 → high < 128 ^ more → high < 2 ^ 70
ten_groups more high few below = omega (arith, pow-le-pow_right {n = 128} (omega arith) {i = more} {j = 10} few)
