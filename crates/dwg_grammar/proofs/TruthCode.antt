-- A bit as a truth value (Open Design Specification, "Bit codes").
use Rattle.std.proofs.Common.{◌≡◌, refl, ℕ, zero, suc, ◌^◌, ◌<◌, Bool, true, false, arith}
use Rattle.std.specs.Prelude.{⊤, ◌==◌, if◌then◌else◌}
use Rattle.dwg_grammar.specs.Grammar.{IsCode, AnyLetters}
use Rattle.dwg_grammar.specs.Combinators.{fixed}
use Rattle.dwg_grammar.proofs.CombinatorLemmas.{fixed_is_code, struct_is_code}
use Rattle.dwg_grammar.specs.Codes.{b}

-- what a truth value is written as is a bit
truth_written : (value : Bool) → ((if value then 1 else 0) < 2 ^ 1) × (((if value then 1 else 0) == 1) ≡ value)
truth_written true = (omega arith, refl)
truth_written false = (omega arith, refl)

-- a bit is written as itself
bit_written : (bit : ℕ) → bit < 2 ^ 1 → (if bit == 1 then 1 else 0) ≡ bit
bit_written zero fits = refl
bit_written (suc zero) fits = refl
bit_written (suc (suc more)) fits = absurd (omega arith)

-- B is a code
pub b_is_code : IsCode AnyLetters b
b_is_code = struct_is_code AnyLetters (λ value. ⊤) (λ bit. bit == 1) (λ value. if value then 1 else 0) (fixed 1) (fixed_is_code 1)
    (λ bit fits. tt) (λ value fits. truth_written value) bit_written
