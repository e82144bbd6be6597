-- References that each can be given are values.
use Rattle.std.proofs.Common.{◌≡◌, refl, sym, ◌∙◌, ap₂, ℕ, Bool, true, false, List, [], ◌∷◌}
use Rattle.std.specs.Prelude.{◌&&◌, ◌↔◌, IsTrue}
use Rattle.std.specs.List.{list_all}
use Rattle.dwg_grammar.specs.ToEnd.{AreValues}
use Rattle.dwg_grammar.specs.Reference.{Reference, reaches}
use Rattle.dwg_grammar.specs.ReferenceCodes.{reference}

-- both tests hold where their conjunction does
both_hold : (one other : Bool) → (one && other) ≡ true → (one ≡ true) × (other ≡ true)
both_hold true true holds = (refl, refl)
both_hold true false holds = absurd cc
both_hold false other holds = absurd cc

-- where each is reached, all are values
values_of_reached : (base : ℕ) (refs : List Reference) → list_all (λ value. reaches base value) refs ≡ true → AreValues (reference base) refs
unfolding reference
values_of_reached base [] all = tt
values_of_reached base (value ∷ refs) all =
    let both = both_hold (reaches base value) (list_all (λ value. reaches base value) refs) all in
    (both.0, values_of_reached base refs both.1)

-- and values are reached
reached_of_values : (base : ℕ) (refs : List Reference) → AreValues (reference base) refs → list_all (λ value. reaches base value) refs ≡ true
unfolding reference
reached_of_values base [] are = refl
reached_of_values base (value ∷ refs) are = ap₂ (λ (one other : Bool). one && other) are.0 (reached_of_values base refs are.1)

-- the test of each gives whether they are values
pub fit_are_values : (base : ℕ) (refs : List Reference) (fit : Bool) → fit ≡ list_all (λ value. reaches base value) refs → IsTrue fit ↔ AreValues (reference base) refs
fit_are_values base refs fit same = ((λ holds. values_of_reached base refs (sym same ∙ holds)), (λ are. same ∙ reached_of_values base refs are))
