-- The verdict, by the count of findings.
use Rattle.std.proofs.Common.{◌≡◌, refl, ℕ, ◌<◌, List, [], ◌∷◌, ◌++◌, length, arith}
use Rattle.std.specs.Prelude.{codes, decimal}
use Rattle.dwg_text.specs.Lines.{line}
use Rattle.dwg_messages.specs.Verdict.{verdict}

-- nothing is found
pub verdict_of_none : {A : Type 0} (audited : List ℕ) (found : List A) → length found ≡ 0 → audited ++ line (codes " yes") ≡ verdict audited found
unfolding verdict
verdict_of_none {A} audited [] none = refl
verdict_of_none {A} audited (finding ∷ more) none = absurd (omega (arith, none))

-- something is found
pub verdict_of_some : {A : Type 0} (audited : List ℕ) (found : List A) → 0 < length found → audited ++ line (codes " no " ++ decimal (length found)) ≡ verdict audited found
unfolding verdict
verdict_of_some {A} audited [] some = absurd (omega (arith, some))
verdict_of_some {A} audited (finding ∷ more) some = refl
