-- The answers of drawings that are made.
use Rattle.std.proofs.Common.{◌≡◌, refl, sym, ap, ℕ, ◌<◌, ◌≤◌, true, false, arith}
use Rattle.std.proofs.lemmas.Bool.Decides.{nat_tests}
use Rattle.std.specs.Prelude.{Bool, ◌||◌, ◌==◌, ◌⊎◌, nat_lt, if◌then◌else◌}
use Rattle.dwg_base.specs.Devices.{MOST_BYTES}
use Rattle.dwg_commands.specs.declared.outcome.Outcome.{Outcome}
use Rattle.dwg_commands.specs.declared.status.Status.TheVariants.{Usage, TooLarge}
use Rattle.dwg_commands.specs.Answered.{noted, printed, filed, filed_with, written, made_outcome}
use Rattle.dwg_commands.specs.Run.{IsSettled}
use Rattle.dwg_file.specs.Canonical.{size_of, canonical}
use Rattle.dwg_file.specs.Contents.{Contents}
use Rattle.dwg_make.specs.Made.{MOST_ENTITIES, made}
use Rattle.dwg_text.specs.Notes.{size_note, too_large_note}

-- a size that a made drawing has
pub of_size : (n seed : ℕ) → 0 < n → n ≤ MOST_ENTITIES → written (made n seed) ≡ made_outcome n seed
unfolding made_outcome
of_size n seed some few =
    let within : (n == 0 || nat_lt MOST_ENTITIES n) ≡ false = grind (arith, nat_tests) in
    sym (ap (λ test. if test then noted size_note Usage else written (made n seed)) within)

-- one that it hasn't
pub of_no_size : (n seed : ℕ) → (n ≡ 0) ⊎ (MOST_ENTITIES < n) → noted size_note Usage ≡ made_outcome n seed
unfolding made_outcome
of_no_size n seed none =
    let without : (n == 0 || nat_lt MOST_ENTITIES n) ≡ true = grind (arith, nat_tests, none) in
    sym (ap (λ test. if test then noted size_note Usage else written (made n seed)) without)

-- a file that is written or refused is neither a fault nor a note on usage
settled_written : (drawing : Contents) → IsSettled (written drawing).status × ((written drawing).status ≡ Usage → ⊥)
unfolding filed_with
settled_written drawing = of_test (nat_lt MOST_BYTES (size_of drawing))
  where
    of_test : (test : Bool) → let answer : Outcome = if test then noted (too_large_note (size_of drawing)) (TooLarge (size_of drawing)) else printed (canonical drawing) in
        IsSettled answer.status × (answer.status ≡ Usage → ⊥)
    of_test true = (tt, λ same. absurd cc)
    of_test false = (tt, λ same. absurd cc)

-- so what is answered to a size is settled, and is a note on usage exactly where a made drawing hasn't that size
pub made_settled : (n seed : ℕ) → IsSettled (made_outcome n seed).status
unfolding made_outcome
made_settled n seed = of_test (n == 0 || nat_lt MOST_ENTITIES n)
  where
    of_test : (test : Bool) → IsSettled (if test then noted size_note Usage else written (made n seed)).status
    of_test true = tt
    of_test false = (settled_written (made n seed)).0

pub made_usage_reported : (n seed : ℕ) → (n ≡ 0) ⊎ (MOST_ENTITIES < n) → (made_outcome n seed).status ≡ Usage
made_usage_reported n seed none = sym (ap (λ (answer : Outcome). answer.status) (of_no_size n seed none))

pub made_usage : (n seed : ℕ) → (made_outcome n seed).status ≡ Usage → (n ≡ 0) ⊎ (MOST_ENTITIES < n)
unfolding made_outcome
made_usage n seed ends = of_test (n == 0 || nat_lt MOST_ENTITIES n) refl ends
  where
    of_test : (test : Bool) → (n == 0 || nat_lt MOST_ENTITIES n) ≡ test → (if test then noted size_note Usage else written (made n seed)).status ≡ Usage
        → (n ≡ 0) ⊎ (MOST_ENTITIES < n)
    of_test true is usage = grind (arith, nat_tests, is)
    of_test false is usage = absurd ((settled_written (made n seed)).1 usage)
