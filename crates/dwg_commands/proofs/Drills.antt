-- The answers of drills.
use Rattle.std.proofs.Common.{◌≡◌, refl, sym, ap, ◌∙◌, ℕ, ◌<◌, ◌≤◌, true, false, arith}
use Rattle.std.proofs.lemmas.Bool.Decides.{nat_tests}
use Rattle.std.specs.Prelude.{Bool, ◌||◌, ◌==◌, ◌⊎◌, nat_lt, if◌then◌else◌}
use Rattle.dwg_base.specs.Devices.{MOST_BYTES}
use Rattle.dwg_commands.specs.declared.outcome.Outcome.{Outcome}
use Rattle.dwg_commands.specs.declared.status.Status.TheVariants.{Usage, TooLarge}
use Rattle.dwg_commands.specs.Answered.{noted, printed, drilled_outcome, drill_outcome}
use Rattle.dwg_commands.specs.Run.{IsSettled}
use Rattle.dwg_drill.specs.Drilled.{DRILL_SEED, drilled}
use Rattle.dwg_file.specs.Canonical.{size_of}
use Rattle.dwg_make.specs.Made.{MOST_ENTITIES, made}
use Rattle.dwg_messages.specs.DrillText.{drill_text}
use Rattle.dwg_text.specs.Notes.{size_note, too_large_note}

-- what is answered to a size that a made drawing has
sized : (n : ℕ) → 0 < n → n ≤ MOST_ENTITIES → drilled_outcome n ≡ drill_outcome n
unfolding drill_outcome
sized n some few =
    let within : (n == 0 || nat_lt MOST_ENTITIES n) ≡ false = grind (arith, nat_tests) in
    sym (ap (λ test. if test then noted size_note Usage else drilled_outcome n) within)

-- to one that it hasn't
pub drill_of_no_size : (n : ℕ) → (n ≡ 0) ⊎ (MOST_ENTITIES < n) → noted size_note Usage ≡ drill_outcome n
unfolding drill_outcome
drill_of_no_size n none =
    let without : (n == 0 || nat_lt MOST_ENTITIES n) ≡ true = grind (arith, nat_tests, none) in
    sym (ap (λ test. if test then noted size_note Usage else drilled_outcome n) without)

-- where the canonical file is within the limit, and where it isn't
pub drill_reported : (n : ℕ) → 0 < n → n ≤ MOST_ENTITIES → size_of (made n DRILL_SEED) ≤ MOST_BYTES → printed (drill_text (drilled n)) ≡ drill_outcome n
unfolding drilled_outcome
drill_reported n some few small =
    let within : nat_lt MOST_BYTES (size_of (made n DRILL_SEED)) ≡ false = grind (arith, nat_tests) in
    let large = noted (too_large_note (size_of (made n DRILL_SEED))) (TooLarge (size_of (made n DRILL_SEED))) in
    sym (ap (λ test. if test then large else printed (drill_text (drilled n))) within) ∙ sized n some few

pub drill_too_large : (n size : ℕ) → 0 < n → n ≤ MOST_ENTITIES → MOST_BYTES < size_of (made n DRILL_SEED) → size ≡ size_of (made n DRILL_SEED)
    → noted (too_large_note size) (TooLarge size) ≡ drill_outcome n
unfolding drilled_outcome
drill_too_large n size some few large is =
    let over : nat_lt MOST_BYTES (size_of (made n DRILL_SEED)) ≡ true = grind (arith, nat_tests) in
    ap (λ one. noted (too_large_note one) (TooLarge one)) is
    ∙ sym (ap (λ test. if test then noted (too_large_note (size_of (made n DRILL_SEED))) (TooLarge (size_of (made n DRILL_SEED))) else printed (drill_text (drilled n))) over)
    ∙ sized n some few

-- what was found out, or a file that is too large, is neither a fault nor a note on usage
settled_drilled : (n : ℕ) → IsSettled (drilled_outcome n).status × ((drilled_outcome n).status ≡ Usage → ⊥)
unfolding drilled_outcome
settled_drilled n = of_test (nat_lt MOST_BYTES (size_of (made n DRILL_SEED)))
  where
    of_test : (test : Bool) → let answer : Outcome = if test then noted (too_large_note (size_of (made n DRILL_SEED))) (TooLarge (size_of (made n DRILL_SEED))) else printed (drill_text (drilled n)) in
        IsSettled answer.status × (answer.status ≡ Usage → ⊥)
    of_test true = (tt, λ same. absurd cc)
    of_test false = (tt, λ same. absurd cc)

-- so what is answered to a size is settled, and is a note on usage exactly where a made drawing hasn't that size
pub drill_settled : (n : ℕ) → IsSettled (drill_outcome n).status
unfolding drill_outcome
drill_settled n = of_test (n == 0 || nat_lt MOST_ENTITIES n)
  where
    of_test : (test : Bool) → IsSettled (if test then noted size_note Usage else drilled_outcome n).status
    of_test true = tt
    of_test false = (settled_drilled n).0

pub drill_usage_reported : (n : ℕ) → (n ≡ 0) ⊎ (MOST_ENTITIES < n) → (drill_outcome n).status ≡ Usage
drill_usage_reported n none = sym (ap (λ (answer : Outcome). answer.status) (drill_of_no_size n none))

pub drill_usage : (n : ℕ) → (drill_outcome n).status ≡ Usage → (n ≡ 0) ⊎ (MOST_ENTITIES < n)
unfolding drill_outcome
drill_usage n ends = of_test (n == 0 || nat_lt MOST_ENTITIES n) refl ends
  where
    of_test : (test : Bool) → (n == 0 || nat_lt MOST_ENTITIES n) ≡ test → (if test then noted size_note Usage else drilled_outcome n).status ≡ Usage → (n ≡ 0) ⊎ (MOST_ENTITIES < n)
    of_test true is usage = grind (arith, nat_tests, is)
    of_test false is usage = absurd ((settled_drilled n).1 usage)
