-- The steps of lookups, one after the other.
use Rattle.std.proofs.Common.{◌≡◌, sym, ap, ◌∙◌, ◌<◌, ◌≤◌, ◌+◌, ◌*◌, ℕ, arith}
use Rattle.std.proofs.Math.Nat.{mul-le-mul_right}
use Rattle.dwg_audit.specs.Lookups.{TakeAtMost}

-- no lookup takes a step
pub none_taken : (handles before : ℕ) → TakeAtMost handles 0 before before
none_taken handles before k fits = omega arith

-- more lookups may take more
pub at_most : (handles few many before after : ℕ) → few ≤ many → TakeAtMost handles few before after → TakeAtMost handles many before after
at_most handles few many before after less taken k fits =
    let most : few * k ≤ many * k = mul-le-mul_right k less in
    omega (arith, most, taken k fits)

-- lookups and further ones
pub both_taken : (handles one other before between after : ℕ) → TakeAtMost handles one before between → TakeAtMost handles other between after → TakeAtMost handles (one + other) before after
both_taken handles one other before between after first second k fits =
    let sum : (one + other) * k ≡ one * k + other * k = grind arith in
    omega (arith, sum, first k fits, second k fits)

-- one lookup more of so many
pub one_taken : (handles i many before between after : ℕ) → i < many → TakeAtMost handles i before between → TakeAtMost handles 1 between after → TakeAtMost handles many before after
one_taken handles i many before between after less first second =
    at_most handles (i + 1) many before after (omega (arith, less)) (both_taken handles i 1 before between after first second)

-- owners, what follows in blocks, and slots
pub all_taken : (handles many next held references first second third fourth : ℕ) → next ≡ many → held ≡ references
    → TakeAtMost handles many first second → TakeAtMost handles next second third → TakeAtMost handles held third fourth → TakeAtMost handles (2 * many + references) first fourth
all_taken handles many next held references first second third fourth as_many as_held owners following slots k fits =
    let sum : (2 * many + references) * k ≡ many * k + next * k + held * k = ap (λ n. (2 * many + n) * k) (sym as_held) ∙ (grind arith ∙ ap (λ n. many * k + n * k + held * k) (sym as_many)) in
    omega (arith, sum, owners k fits, following k fits, slots k fits)
