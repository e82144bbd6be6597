-- Lengths of bodies below 2^30, as they are written: one unit, or two.
use Rattle.std.proofs.Common.{◌≡◌, refl, sym, ◌∙◌, ap, subst, ℕ, ◌+◌, ◌/◌, ◌%◌, ◌^◌, ◌<◌, ◌≤◌, Bool, true, false, List, [], ◌∷◌, ◌++◌, arith}
use Rattle.std.specs.Prelude.{nat_lt}
use Rattle.std.specs.Int.{w16, to_le_bytes}
use Rattle.std.proofs.lemmas.Bool.Decides.{nat_tests}
use Rattle.dwg_base.specs.Bytes.{AreBytes}
use Rattle.dwg_grammar.specs.Combinators.{chain}
use Rattle.dwg_grammar.specs.ModularCodes.{unit, ms}
use Rattle.dwg_codes.proofs.ShortReading.{ms_short_last, ms_short_more}
use Rattle.dwg_grammar.proofs.NumberLemmas.{bytes_of_number}

-- joined bytes are bytes
pub bytes_joined : (prefix rest : List ℕ) → AreBytes prefix → AreBytes rest → AreBytes (prefix ++ rest)
bytes_joined [] rest are others = others
bytes_joined (byte ∷ prefix) rest are others = (are.0, bytes_joined prefix rest are.1 others)

-- a unit is written by its two bytes
unit_short : (group : ℕ) → unit.short group ≡ to_le_bytes w16 group
unfolding chain
unit_short group = refl

-- so a length of one unit is two bytes
pub length_of_one : (long : ℕ) → long < 32768 → ms.short long ≡ to_le_bytes w16 long
length_of_one long small = ms_short_last 4 long (omega arith) small ∙ unit_short long

-- and one of two units is four
pub length_of_two : (long : ℕ) → 32768 ≤ long → long < 2 ^ 30 → ms.short long ≡ to_le_bytes w16 (32768 + long % 32768) ++ to_le_bytes w16 (long / 32768)
length_of_two long big small =
    ms_short_more 4 long (omega arith) big
    ∙ ap (λ more. unit.short (32768 + long % 32768) ++ more) (ms_short_last 3 (long / 32768) (omega arith) (omega arith) ∙ unit_short (long / 32768))
    ∙ ap (λ first. first ++ to_le_bytes w16 (long / 32768)) (unit_short (32768 + long % 32768))

-- what is written of a length are bytes
pub length_is_bytes : (long : ℕ) → long < 2 ^ 30 → AreBytes (ms.short long)
length_is_bytes long small = of_test (nat_lt long 32768) refl
  where
    of_test : (test : Bool) → nat_lt long 32768 ≡ test → AreBytes (ms.short long)
    of_test true one = subst AreBytes (sym (length_of_one long (grind (arith, nat_tests)))) (bytes_of_number 0 2 long)
    of_test false more =
        subst AreBytes (sym (length_of_two long (grind (arith, nat_tests)) small))
        (bytes_joined (to_le_bytes w16 (32768 + long % 32768)) (to_le_bytes w16 (long / 32768)) (bytes_of_number 0 2 (32768 + long % 32768)) (bytes_of_number 0 2 (long / 32768)))
