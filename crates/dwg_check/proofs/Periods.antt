-- 32,767 zero bytes leave every word, so their count is taken modulo that and goes by its bits.
use Rattle.std.proofs.Common.{◌≡◌, refl, sym, ◌∙◌, ap, ℕ, zero, suc, ◌+◌, ◌-◌, ◌*◌, ◌/◌, ◌%◌, ◌^◌, ◌<◌, ◌≤◌, List, [], ◌∷◌, arith, length, get_or, drop, drop-cons, add-one, pow-add}
use Rattle.std.specs.Prelude.{replicate, fold}
use Rattle.std.proofs.lemmas.Nat.{div-add-mod'}
use Rattle.std.proofs.Math.Pow.{pow-lt, pow_mono}
use Rattle.std.proofs.Math.Nat.{mul-le-mul_right, lt_of_not-le}
use Rattle.dwg_check.specs.CheckWordLaws.{CheckWordIsPeriodic}
use Rattle.dwg_check.proofs.CheckWordLaws.{check_word_fits}
use Rattle.dwg_check.proofs.AppliedRows.{applied}
use Rattle.dwg_check.specs.declared.zeros.TheConstants.{POWERS}
use Rattle.dwg_check.proofs.Linear.{row_of, linear_applied, same_rows}
use Rattle.dwg_check.proofs.Powers.{after, after_none, after_more, after_linear, power_applied}

-- all rows applied in turn
abbrev all_rows : ℕ → List (List ℕ) → ℕ
all_rows word rows = fold (λ w row. applied row w) word rows

-- they leave each bit
bits_stay : row_of (λ w. all_rows w POWERS) 0 16 ≡ row_of (λ w. w) 0 16
unfolding applied
bits_stay = refl

-- the rows from a place on give what the zero bytes make of a word that are left from that power to the last
rows_from : (n k m word : ℕ) → k + n ≡ 15 → m + 2 ^ k ≡ 2 ^ 15 → word < 2 ^ 16 → all_rows word (drop k POWERS) ≡ after m word
rows_from zero k m word all few fits =
    let end : k ≡ 15 = omega arith in
    let none : m ≡ 0 = nothing m (2 ^ k) (ap (λ e. 2 ^ e) end) few in
    ap (λ i. all_rows word (drop i POWERS)) end ∙ sym (ap (λ z. after z word) none ∙ after_none word)
  where
    nothing : (m p : ℕ) → p ≡ 2 ^ 15 → m + p ≡ 2 ^ 15 → m ≡ 0
    nothing m p whole few = omega (arith, whole, few)
rows_from (suc n) k m word all few fits =
    let within : k < 15 = omega arith in
    let twice : 2 ^ (k + 1) ≡ 2 ^ k * 2 = pow-add 2 k 1 in
    let most : 2 ^ (k + 1) ≤ 2 ^ 15 = pow_mono {i = k + 1} {j = 15} (omega (arith, within)) in
    let rest : m - 2 ^ k + 2 ^ (k + 1) ≡ 2 ^ 15 = omega (arith, twice, most, few) in
    let whole : 2 ^ k + (m - 2 ^ k) ≡ m = omega (arith, twice, most, few) in
    let more : k + 1 + n ≡ 15 = omega arith in
    ap (all_rows word) (next POWERS k (omega (arith, within)))
    ∙ ap (λ w. all_rows w (drop (k + 1) POWERS)) (power_applied k word within fits)
    ∙ rows_from n (k + 1) (m - 2 ^ k) (after (2 ^ k) word) more rest (check_word_fits word (replicate (2 ^ k) 0) fits)
    ∙ after_more (2 ^ k) (m - 2 ^ k) word ∙ ap (λ z. after z word) whole
  where
    next : (rows : List (List ℕ)) (i : ℕ) → i < length rows → drop i rows ≡ get_or rows i [] ∷ drop (i + 1) rows
    next rows i inside = rw (add-one, drop-cons rows i [])

-- one zero byte fewer than 2 ^ 15 leave every word
pub stays : (m word : ℕ) → m + 1 ≡ 2 ^ 15 → word < 2 ^ 16 → after m word ≡ word
stays m word one fits =
    sym (linear_applied (after m) (after_linear m) word fits)
    ∙ ap (λ row. applied row word) (same_rows (after m) (λ w. all_rows w POWERS) 0 16 (λ i h. sym (rows_from 15 0 m (2 ^ i) refl one (pow-lt h))) ∙ bits_stay)
    ∙ linear_applied (λ w. w) (λ a b. refl) word fits

-- that is 32,767 zero bytes
pub check_word_periodic : CheckWordIsPeriodic
check_word_periodic word fits = stays 32767 word (omega arith) fits

-- so many turns of what leaves every word leave it
pub turns_stay : (m : ℕ) → ((word : ℕ) → word < 2 ^ 16 → after m word ≡ word) → (q r word : ℕ) → word < 2 ^ 16 → after (q * m + r) word ≡ after r word
turns_stay m same zero r word fits = let none : 0 * m + r ≡ r = omega arith in ap (λ z. after z word) none
turns_stay m same (suc q) r word fits =
    let more : suc q * m + r ≡ m + (q * m + r) = grind arith in
    ap (λ z. after z word) more ∙ sym (after_more m (q * m + r) word) ∙ ap (after (q * m + r)) (same word fits)
    ∙ turns_stay m same q r word fits

-- so a count goes modulo that
pub modulo_stays : (m n word : ℕ) → m + 1 ≡ 2 ^ 15 → word < 2 ^ 16 → after (n % m) word ≡ after n word
modulo_stays m n word one fits =
    sym (turns_stay m (λ w h. stays m w one h) (n / m) (n % m) word fits) ∙ ap (λ z. after z word) (div-add-mod' n m)

-- a word, the zero bytes still to come by powers from one on, and the steps that are spent
pub record IsOnWay (start count word left power from steps : ℕ) : Type 0 where
  pub leads : after (left * 2 ^ power) word ≡ after count start
  pub few : left * 2 ^ power < 2 ^ 15
  pub powers : power ≤ 15
  pub spent : steps ≤ from + power

-- the count modulo 32,767 begins
pub begins : (start count from : ℕ) → start < 2 ^ 16 → IsOnWay start count start (count % 32767) 0 from from
begins start count from fits =
    let whole : count % 32767 * 2 ^ 0 ≡ count % 32767 = omega arith in
    record {
      leads = ap (λ z. after z start) whole ∙ modulo_stays 32767 count start (omega arith) fits;
      few = omega arith;
      powers = omega arith;
      spent = omega arith;
    }

-- where some are left, the power is one of the fifteen
pub power_below : (left power : ℕ) → 0 < left → left * 2 ^ power < 2 ^ 15 → power < 15
power_below left power some few =
    let one : 1 * 2 ^ power ≤ left * 2 ^ power = mul-le-mul_right (2 ^ power) some in
    lt_of_not-le (λ more. absurd (omega (arith, one, few, pow_mono more)))

-- a bit of the count is its power of zero bytes
pub goes_on : (start count word left power from steps next spent : ℕ) → IsOnWay start count word left power from steps → 0 < left
    → next ≡ after (left % 2 * 2 ^ power) word → spent ≤ steps + 1 → IsOnWay start count next (left / 2) (power + 1) from spent
goes_on start count word left power from steps next spent way some is few =
    let doubled : 2 ^ (power + 1) ≡ 2 ^ power * 2 = pow-add 2 power 1 in
    let halves : left ≡ left / 2 * 2 + left % 2 = omega arith in
    let parts : left % 2 * 2 ^ power + left / 2 * 2 ^ (power + 1) ≡ left * 2 ^ power =
    ap (λ p. left % 2 * 2 ^ power + left / 2 * p) doubled ∙ joined (left / 2) (left % 2) (2 ^ power) ∙ ap (λ n. n * 2 ^ power) (sym halves) in
    let below : power < 15 = power_below left power some way.few in
    record {
      leads = ap (after (left / 2 * 2 ^ (power + 1))) is ∙ after_more (left % 2 * 2 ^ power) (left / 2 * 2 ^ (power + 1)) word ∙ ap (λ z. after z word) parts ∙ way.leads;
      few = omega (arith, parts, way.few);
      powers = omega (arith, below);
      spent = omega (arith, few, way.spent);
    }
  where
    joined : (h l p : ℕ) → l * p + h * (p * 2) ≡ (h * 2 + l) * p
    joined h l p = grind arith

-- with none left the word is that after all
pub arrives : (start count word left power : ℕ) → after (left * 2 ^ power) word ≡ after count start → left ≤ 0 → word ≡ after count start
arrives start count word left power leads none =
    sym (ap (λ z. after z word) (nothing left (2 ^ power) none) ∙ after_none word) ∙ leads
  where
    nothing : (l p : ℕ) → l ≤ 0 → l * p ≡ 0
    nothing zero p h = omega arith
    nothing (suc l) p h = absurd (omega arith)

-- a bit that is not set leaves the word
pub bit_clear : (left power word : ℕ) → left % 2 ≡ 0 → word ≡ after (left % 2 * 2 ^ power) word
bit_clear left power word clear =
    let none : left % 2 * 2 ^ power ≡ 0 = ap (λ b. b * 2 ^ power) clear ∙ omega arith in
    sym (ap (λ z. after z word) none ∙ after_none word)
