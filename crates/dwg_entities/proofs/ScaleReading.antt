-- After which tags a scale stands.
use Rattle.std.proofs.Common.{◌≡◌, refl, ℕ, zero, suc, Bool, List, None}
use Rattle.std.specs.Prelude.{◌≢◌}
use Rattle.dwg_entities.specs.Scale.{scale_by}

-- after no other tag stands a scale
pub none_after : (tag : ℕ) (letters : List Bool) → tag ≢ 0 → tag ≢ 1 → tag ≢ 2 → tag ≢ 3 → (scale_by tag).parse letters ≡ None
none_after zero letters a b c d = absurd (a refl)
none_after (suc zero) letters a b c d = absurd (b refl)
none_after (suc (suc zero)) letters a b c d = absurd (c refl)
none_after (suc (suc (suc zero))) letters a b c d = absurd (d refl)
none_after (suc (suc (suc (suc tag)))) letters a b c d = refl
