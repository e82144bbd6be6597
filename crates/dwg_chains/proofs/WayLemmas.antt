-- Laws of the way to the first goal: what is found in so many steps is the straight way, and that is found if it has no more steps.
use Rattle.std.proofs.Common.{◌≡◌, sym, refl, ap, ◌∙◌, ⊎_elim, arith}
use Rattle.std.proofs.lemmas.Bool.{cases_Bool}
use Rattle.std.proofs.lemmas.Option.{same_Some}
use Rattle.std.specs.Prelude.{ℕ, zero, suc, ◌≤◌, Bool, true, false, List, [], ◌∷◌, length, Option, Some, None, option_map, option_and_then}
use Rattle.dwg_chains.specs.Ways.{way}
use Rattle.dwg_chains.proofs.RankLemmas.{IsStraight}

-- at a goal the way is the goal alone
way_at_goal : {A : Type 0} (step : A → Option A) (goal : A → Bool) (count : ℕ) (x : A) → goal x ≡ true → way step goal count x ≡ Some (x ∷ [])
unfolding way
way_at_goal step goal zero x here = rw here
way_at_goal step goal (suc count) x here = rw here

-- away from a goal the way goes on where the thing leads
way_goes_on : {A : Type 0} (step : A → Option A) (goal : A → Bool) (count : ℕ) (x y : A) → goal x ≡ false → step x ≡ Some y → way step goal (suc count) x ≡ option_map (λ rest. x ∷ rest) (way step goal count y)
unfolding way
way_goes_on step goal count x y away to = rw (away, to)

-- a straight way with at most so many steps is the way that is found
pub straight_is_found : {A : Type 0} (step : A → Option A) (goal : A → Bool) (count : ℕ) (x : A) (rest : List A) → IsStraight step goal x rest → length rest ≤ count → way step goal count x ≡ Some (x ∷ rest)
straight_is_found step goal count x [] straight short = way_at_goal step goal count x straight
straight_is_found step goal zero x (y ∷ rest) straight short = absurd (omega (arith, short))
straight_is_found {A} step goal (suc count) x (y ∷ rest) straight short =
    way_goes_on step goal count x y straight.0 straight.1 ∙ ap (λ (found : Option (List A)). option_map (λ those. x ∷ those) found) (straight_is_found step goal count y rest straight.2 (omega (arith, short)))

-- what is mapped to something is something
pub option_map_found : {A B : Type 0} (turn : A → B) (found : Option A) (z : B) → option_map turn found ≡ Some z → (y : A) × (found ≡ Some y) × (z ≡ turn y)
option_map_found turn None z is = absurd (cc is)
option_map_found turn (Some y) z is = (y, refl, sym (same_Some (turn y) z is))

-- what goes on to something is something that goes on
pub option_then_found : {A B : Type 0} (turn : A → Option B) (found : Option A) (z : B) → option_and_then turn found ≡ Some z → (y : A) × (found ≡ Some y) × (turn y ≡ Some z)
option_then_found turn None z is = absurd (cc is)
option_then_found turn (Some y) z is = (y, refl, is)

-- what is put before one of two equal lists is put before the other
joined : {A : Type 0} (x : A) (path after rest : List A) → path ≡ x ∷ after → after ≡ rest → path ≡ x ∷ rest
joined x path after rest is same = cc

-- the way that is found is straight
pub found_is_straight : {A : Type 0} (step : A → Option A) (goal : A → Bool) (count : ℕ) (x : A) (path : List A) → way step goal count x ≡ Some path → (rest : List A) × (path ≡ x ∷ rest) × IsStraight step goal x rest
unfolding way
found_is_straight {A} step goal zero x path found = ⊎_elim
    (λ (here : goal x ≡ true). ([], sym (same_Some (x ∷ []) path (rw here at found)), here))
    (λ (away : goal x ≡ false). let none : ◌≡◌ {A = Option (List A)} None (Some path) = rw away at found in absurd (cc none))
    (cases_Bool (goal x))
found_is_straight {A} step goal (suc count) x path found = ⊎_elim
    (λ (here : goal x ≡ true). ([], sym (same_Some (x ∷ []) path (rw here at found)), here))
    (λ (away : goal x ≡ false).
    let mapped : option_map (λ rest. x ∷ rest) (option_and_then (way step goal count) (step x)) ≡ Some path = rw away at found in
    let after = option_map_found (λ rest. x ∷ rest) (option_and_then (way step goal count) (step x)) path mapped in
    let next = option_then_found (way step goal count) (step x) after.0 after.1 in
    let further = found_is_straight step goal count next.0 after.0 next.2 in
    (next.0 ∷ further.0, joined x path after.0 (next.0 ∷ further.0) after.2 further.1, (away, next.1, further.2)))
    (cases_Bool (goal x))
