-- Losses one by one: with the next, what is left gives the whole.
use Rattle.std.proofs.Common.{◌≡◌, refl, sym, ◌∙◌, ap, ap₂, ℕ, ◌+◌, ◌<◌, ◌≤◌, Bool, true, false, List, [], ◌∷◌, ◌++◌, length, drop, get_or, append_assoc, add-one}
use Rattle.std.specs.Prelude.{if◌then◌else◌}
use Rattle.std.proofs.Math.Seq.{drop-cons}
use Rattle.std.proofs.lemmas.List.{drop_all}
use Rattle.dwg_objmap.specs.declared.pair.Pair.{Pair}
use Rattle.dwg_recover.specs.declared.frame.Frame.{Frame}
use Rattle.dwg_recover.specs.declared.loss.Loss.{Loss}
use Rattle.dwg_recover.specs.declared.loss.Loss.TheVariants.{Object}
use Rattle.dwg_recover.specs.Frames.{is_kept_pair, lost_pairs}

-- what is left after so many, by the next of them
pub left_of : {X : Type 0} (xs : List X) (index : ℕ) (x none : X) → index < length xs → x ≡ get_or xs index none → drop index xs ≡ x ∷ drop (index + 1) xs
left_of {X} xs index x none within is = drop-cons xs index none within ∙ ap₂ (λ (one : X) (n : ℕ). one ∷ drop n xs) (sym is) (sym (add-one index))

-- with one part more of what was left, what is left gives the whole
pub part_put : {X : Type 0} (put more part rest left whole : List X) → more ≡ put ++ part → left ≡ part ++ rest → put ++ left ≡ whole → more ++ rest ≡ whole
part_put put more part rest left whole added first all = ap (λ xs. xs ++ rest) added ∙ append_assoc put part rest ∙ ap (λ xs. put ++ xs) (sym first) ∙ all

append_none : {X : Type 0} (xs : List X) → xs ++ [] ≡ xs
append_none [] = refl
append_none (x ∷ xs) = ap (λ rest. x ∷ rest) (append_none xs)

-- where nothing is left, what was put is the whole
pub nothing_left : {X : Type 0} (put left whole : List X) → left ≡ [] → put ++ left ≡ whole → put ≡ whole
nothing_left put left whole none all = sym (ap (λ xs. put ++ xs) none ∙ append_none put) ∙ all

-- a loss or none, and those after it
first_unless : (test : Bool) (loss : Loss) (rest : List Loss) → (if test then rest else loss ∷ rest) ≡ (if test then [] else loss ∷ []) ++ rest
first_unless true loss rest = refl
first_unless false loss rest = refl

-- with the loss of the next pair, what is left gives the whole
pub pairs_on : (kept : List Frame) (index : ℕ) (pairs : List Pair) (pair none : Pair) (put more whole : List Loss) → index < length pairs → pair ≡ get_or pairs index none
    → more ≡ put ++ lost_pairs kept index (pair ∷ []) → put ++ lost_pairs kept index (drop index pairs) ≡ whole → more ++ lost_pairs kept (index + 1) (drop (index + 1) pairs) ≡ whole
unfolding lost_pairs
pairs_on kept index pairs pair none put more whole within is added =
    part_put put more _ (lost_pairs kept (index + 1) (drop (index + 1) pairs)) _ whole added
    (ap (lost_pairs kept index) (left_of pairs index pair none within is) ∙ first_unless (is_kept_pair kept index) (Object pair.handle pair.place) (lost_pairs kept (index + 1) (drop (index + 1) pairs)))

-- after the last pair, what was put is the whole
pub pairs_over : (kept : List Frame) (index : ℕ) (pairs : List Pair) (put whole : List Loss) → length pairs ≤ index → put ++ lost_pairs kept index (drop index pairs) ≡ whole → put ≡ whole
unfolding lost_pairs
pairs_over kept index pairs put whole past = nothing_left put _ whole (ap (lost_pairs kept index) (drop_all index pairs past))
