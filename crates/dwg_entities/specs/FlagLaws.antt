-- A flag is set exactly where its part is missing.
use Rattle.std.proofs.Common.{◌≡◌, ◌∙◌, ap, ℕ, zero, suc, ◌*◌, ◌/◌, ◌%◌, ◌<◌, Bool, true, false, Option, arith}
use Rattle.std.specs.Prelude.{◌==◌, is_none, not, if◌then◌else◌}
use Rattle.dwg_grammar.specs.Combinators.{when}
use Rattle.dwg_grammar.specs.Flags.{has}
use Rattle.dwg_grammar.specs.Grammar.{Grammar}
use Rattle.dwg_entities.specs.Flags.{unless, weight_unless}

-- where a part stands unless a test holds, it is missing where it holds
missing_unless : {V : Type 0} (test : Bool) (code : Grammar Bool V) (part : Option V) → (when (not test) code).IsValue part → is_none part ≡ test
missing_unless true code part none = ap is_none none
missing_unless false code part (inner, same, fits) = ap is_none same

-- the weight of a bit
weight_of_bit : (bit weight : ℕ) → bit < 2 → (if bit == 1 then weight else 0) ≡ bit * weight
weight_of_bit zero weight small = omega arith
weight_of_bit (suc zero) weight small = omega arith
weight_of_bit (suc (suc more)) weight small = absurd (omega arith)

-- a part that stands unless a bit is set gives the weight of that bit
pub weight_parsed : {V : Type 0} (flags weight : ℕ) (code : Grammar Bool V) (part : Option V) → (unless flags weight code).IsValue part → weight_unless part weight ≡ flags / weight % 2 * weight
weight_parsed flags weight code part fits =
    ap (λ (test : Bool). if test then weight else 0) (missing_unless (has flags weight) code part fits) ∙ weight_of_bit (flags / weight % 2) weight (omega arith)
