-- Bytes after their size, by any code of the size.
use Rattle.std.proofs.Common.{◌≡◌, refl, ℕ, ◌+◌, ◌*◌, ◌^◌, ◌<◌, Bool, List, length, arith}
use Rattle.std.specs.Prelude.{◌↔◌}
use Rattle.std.proofs.lemmas.List.{length-append}
use Rattle.dwg_base.specs.Bytes.{AreBytes}
use Rattle.dwg_codes.proofs.RunReading.{length_of_run}
use Rattle.dwg_grammar.proofs.ByteRunLemmas.{values_of_bytes}
use Rattle.dwg_grammar.specs.Codes.{rc, bl}
use Rattle.dwg_grammar.specs.Combinators.{chain, counted}
use Rattle.dwg_grammar.specs.Grammar.{Grammar}
use Rattle.dwg_grammar.specs.ToEnd.{short_all}

-- a BL gives fewer than 2^32 of them, as many as an RL
pub bl_value : (bytes : List ℕ) → AreBytes bytes → (counted bl rc).IsValue bytes ↔ (length bytes < 2 ^ 32)
unfolding chain
bl_value bytes are = ((λ fits. fits.0), (λ fits. (fits, ((values_of_bytes (length bytes) bytes).1 (refl, are)).1)))

-- they have the bits of their size and of each
pub sized_length : (size : Grammar Bool ℕ) (bytes : List ℕ) → length ((counted size rc).short bytes) ≡ length (size.short (length bytes)) + 8 * length bytes
unfolding chain
sized_length size bytes = omega (arith, length-append (size.short (length bytes)) (short_all rc bytes), length_of_run bytes)
