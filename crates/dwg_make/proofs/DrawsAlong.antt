-- Entity by entity, the random numbers go on where they stood.
use Rattle.std.proofs.Common.{◌≡◌, refl, sym, ◌∙◌, ap, ℕ, zero, suc, ◌+◌, ◌*◌, ◌-◌, List, [], ◌∷◌, ◌++◌, append_assoc, add-zero, add-suc, arith}
use Rattle.std.specs.Prelude.{map}
use Rattle.std.specs.List.{range_with_len}
use Rattle.std.proofs.lemmas.List.FromFn.{map-range_with_len_more}
use Rattle.dwg_object.specs.Objects.{ObjectValue}
use Rattle.dwg_make.specs.declared.random.Draw.{Draw}
use Rattle.dwg_make.specs.Draws.{draw_from}
use Rattle.dwg_make.specs.RandomEntities.{drawn_entity, further_entity}
use Rattle.dwg_make.specs.Random.{state_at, next_state}

-- states after a state are states after its seed
pub state_at_add : (seed place more : ℕ) → state_at (state_at seed place) more ≡ state_at seed (place + more)
unfolding state_at
state_at_add seed place zero = rw add-zero
state_at_add seed place (suc more) = rw add-suc (ap next_state (state_at_add seed place more))

-- the seed is the state of number 0
pub from_seed : (seed : ℕ) → seed ≡ state_at seed (9 * 0)
unfolding state_at
from_seed seed = refl

-- nine states for each entity
pub next_at : (seed done state next : ℕ) → state ≡ state_at seed (9 * done) → next ≡ state_at state 9 → next ≡ state_at seed (9 * (done + 1))
next_at seed done state next at after =
    let place : 9 * done + 9 ≡ 9 * (done + 1) = omega arith in
    after ∙ ap (λ from. state_at from 9) at ∙ state_at_add seed (9 * done) 9 ∙ ap (state_at seed) place

-- what is drawn from where an entity's random numbers begin is that entity
drawn_is : (count seed done : ℕ) → drawn_entity count (done + 1) (draw_from (state_at seed (9 * done))) ≡ further_entity count seed (done + 1)
unfolding further_entity
drawn_is count seed done =
    let before : done ≡ done + 1 - 1 = omega arith in
    ap (λ (place : ℕ). drawn_entity count (done + 1) (draw_from (state_at seed (9 * place)))) before

-- one entity more
pub more_made : (count seed done state : ℕ) (draw : Draw) (value : ObjectValue) (start old new : List ObjectValue)
    → state ≡ state_at seed (9 * done) → draw ≡ draw_from state → value ≡ drawn_entity count (done + 1) draw
    → old ≡ start ++ map (further_entity count seed) (range_with_len 1 done) → new ≡ old ++ value ∷ []
    → new ≡ start ++ map (further_entity count seed) (range_with_len 1 (done + 1))
more_made count seed done state draw value start old new at drawn is so_far more =
    let number : 1 + done ≡ done + 1 = omega arith in
    let prefix : List ObjectValue = map (further_entity count seed) (range_with_len 1 done) in
    let entity : value ≡ further_entity count seed (done + 1) = is ∙ ap (drawn_entity count (done + 1)) (drawn ∙ ap draw_from at) ∙ drawn_is count seed done in
    let moved : (start ++ prefix) ++ value ∷ [] ≡ start ++ (prefix ++ value ∷ []) = simp append_assoc in
    more ∙ ap (λ all. all ++ value ∷ []) so_far ∙ moved
    ∙ ap (λ last. start ++ (prefix ++ last ∷ [])) entity
    ∙ ap (λ back. start ++ back) (sym (map-range_with_len_more (further_entity count seed) 1 done (done + 1) number))
