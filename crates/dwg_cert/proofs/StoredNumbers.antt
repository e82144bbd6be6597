-- Numbers that may be missing, as they are stored.
use Rattle.std.proofs.Common.{◌≡◌, refl, ap, ℕ, ◌+◌, ◌-◌, ◌^◌, ◌<◌, ◌≤◌, Bool, true, false, Option, Some, None, IfSome, arith}
use Rattle.std.specs.Prelude.{◌==◌, if◌then◌else◌}
use Rattle.std.proofs.lemmas.Bool.Decides.{nat_tests}
use Rattle.dwg_cert.specs.WrittenForm.{stored}
use Rattle.dwg_cert.specs.CertificateLines.{unstored}

-- what was stored is stored again as it stands
pub stored_again : (number : ℕ) → stored (unstored number) ≡ number
stored_again number = by_test (number == 0) refl
  where
    by_test : (test : Bool) → (number == 0) ≡ test → stored (if test then None else Some (number - 1)) ≡ number
    by_test true same = grind (arith, nat_tests)
    by_test false same = grind (arith, nat_tests)

-- and what is stored is read back
pub unstored_again : (number : Option ℕ) → unstored (stored number) ≡ number
unstored_again None = refl
unstored_again (Some number) = by_test (number + 1 == 0) refl
  where
    by_test : (test : Bool) → (number + 1 == 0) ≡ test → (if test then None else Some (number + 1 - 1)) ≡ Some number
    by_test true same = absurd (grind (arith, nat_tests))
    by_test false same = let less : number + 1 - 1 ≡ number = omega arith in ap (λ (n : ℕ). Some n) less

-- what is stored as at most 2^62 is below 2^62
pub small_unstored : (number : ℕ) → number ≤ 2 ^ 62 → IfSome (unstored number) (λ n. n < 2 ^ 62)
small_unstored number most = by_test (number == 0) refl
  where
    by_test : (test : Bool) → (number == 0) ≡ test → IfSome (if test then None else Some (number - 1)) (λ n. n < 2 ^ 62)
    by_test true same = tt
    by_test false same = grind (arith, nat_tests)

-- and what is below 2^62 was stored as at most that
pub unstored_small : (number : ℕ) → IfSome (unstored number) (λ n. n < 2 ^ 62) → number ≤ 2 ^ 62
unstored_small number small = by_test (number == 0) refl small
  where
    by_test : (test : Bool) → (number == 0) ≡ test → IfSome (if test then None else Some (number - 1)) (λ n. n < 2 ^ 62) → number ≤ 2 ^ 62
    by_test true same small = grind (arith, nat_tests)
    by_test false same small = omega (arith, small)

-- a number that may be missing and is below 2^62 is stored as at most that
pub stored_small : (number : Option ℕ) → IfSome number (λ n. n < 2 ^ 62) → stored number ≤ 2 ^ 62
stored_small None small = omega arith
stored_small (Some number) small = omega (arith, small)
