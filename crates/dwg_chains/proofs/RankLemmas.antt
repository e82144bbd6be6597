-- Laws of ranks: a thing has one rank, a path leads from what has a rank, and what a path leads from has a rank.
use Rattle.std.proofs.Common.{◌≡◌, refl, ap, subst, ⊎_elim, arith, zero-le}
use Rattle.std.proofs.lemmas.Bool.{cases_Bool}
use Rattle.std.proofs.lemmas.Option.{same_Some}
use Rattle.std.specs.Prelude.{ℕ, zero, suc, ◌≤◌, Bool, true, false, List, [], ◌∷◌, length, Option, Some, Contains}
use Rattle.dwg_chains.specs.Paths.{AreDistinct, Follows, Ends, first_of, IsPath, HasPath, HasRank}
use Rattle.dwg_chains.proofs.MemberLemmas.{contains_none, contains_cases}

-- a thing has one rank
pub one_rank : {A : Type 0} (step : A → Option A) (goal : A → Bool) (x : A) (r s : ℕ) → HasRank step goal x r → HasRank step goal x s → r ≡ s
unfolding HasRank
one_rank step goal x zero zero here there = refl
one_rank step goal x zero (suc s) here there = absurd (cc (here, there.0))
one_rank step goal x (suc r) zero here there = absurd (cc (here.0, there))
one_rank {A} step goal x (suc r) (suc s) here there =
    let same : here.1 ≡ there.1 = cc (here.2, there.2) in
    ap suc (one_rank step goal there.1 r s (subst (λ (y : A). HasRank step goal y r) same here.3) there.3)

-- each thing of a list but the last is no goal and leads to the one after it, and the last is a goal
abbrev pub IsStraight : {A : Type 0} → (A → Option A) → (A → Bool) → A → List A → Type 0
IsStraight {A} step goal x [] = goal x ≡ true
IsStraight {A} step goal x (y ∷ rest) = (goal x ≡ false) × (step x ≡ Some y) × IsStraight step goal y rest

-- a straight way from what has a rank has as many steps
pub straight_of_rank : {A : Type 0} (step : A → Option A) (goal : A → Bool) (x : A) (rank : ℕ) → HasRank step goal x rank → (rest : List A) × IsStraight step goal x rest × (length rest ≡ rank)
unfolding HasRank
straight_of_rank step goal x zero here = ([], here, refl)
straight_of_rank step goal x (suc rank) here =
    let further = straight_of_rank step goal here.1 rank here.3 in
    (here.1 ∷ further.0, (here.0, here.2, further.1), ap suc further.2)

-- what a straight way leads from has its count of steps as its rank
pub rank_of_straight : {A : Type 0} (step : A → Option A) (goal : A → Bool) (x : A) (rest : List A) → IsStraight step goal x rest → HasRank step goal x (length rest)
unfolding HasRank
rank_of_straight step goal x [] straight = straight
rank_of_straight step goal x (y ∷ rest) straight = (straight.0, y, straight.1, rank_of_straight step goal y rest straight.2)

-- each thing of a straight way has a rank, which is less than the count of its things
pub ranks_along : {A : Type 0} (step : A → Option A) (goal : A → Bool) (x : A) (rest : List A) (y : A) → IsStraight step goal x rest → Contains (x ∷ rest) y → (rank : ℕ) × (rank ≤ length rest) × HasRank step goal y rank
ranks_along {A} step goal x [] y straight inside = ⊎_elim
    (λ same. (0, zero-le, subst (λ (z : A). HasRank step goal z 0) same (rank_of_straight step goal x [] straight)))
    (λ after. absurd (contains_none y after))
    (contains_cases x [] y inside)
ranks_along {A} step goal x (z ∷ rest) y straight inside = ⊎_elim
    (λ same. (length (z ∷ rest), omega arith, subst (λ (w : A). HasRank step goal w (length (z ∷ rest))) same (rank_of_straight step goal x (z ∷ rest) straight)))
    (λ after. let further = ranks_along step goal z rest y straight.2 after in (further.0, omega (arith, further.1), further.2))
    (contains_cases x (z ∷ rest) y inside)

-- a straight way has no thing twice
pub distinct_along : {A : Type 0} (step : A → Option A) (goal : A → Bool) (x : A) (rest : List A) → IsStraight step goal x rest → AreDistinct (x ∷ rest)
unfolding AreDistinct
distinct_along step goal x [] straight = (contains_none x, tt)
distinct_along step goal x (y ∷ rest) straight = (
  λ again. let further = ranks_along step goal y rest x straight.2 again in
      let same : suc (length rest) ≡ further.0 = one_rank step goal x (suc (length rest)) further.0 (rank_of_straight step goal x (y ∷ rest) straight) further.2 in
      omega (arith, same, further.1),
  distinct_along step goal y rest straight.2,
)

-- each thing of a straight way leads to the one after it
follows_along : {A : Type 0} (step : A → Option A) (goal : A → Bool) (x : A) (rest : List A) → IsStraight step goal x rest → Follows step (x ∷ rest)
unfolding Follows
follows_along step goal x [] straight = tt
follows_along step goal x (y ∷ rest) straight = (straight.1, follows_along step goal y rest straight.2)

-- a straight way ends with a goal
ends_along : {A : Type 0} (step : A → Option A) (goal : A → Bool) (x : A) (rest : List A) → IsStraight step goal x rest → Ends goal (x ∷ rest)
unfolding Ends
ends_along step goal x [] straight = straight
ends_along step goal x (y ∷ rest) straight = ends_along step goal y rest straight.2

-- a straight way is a path
pub path_of_straight : {A : Type 0} (step : A → Option A) (goal : A → Bool) (x : A) (rest : List A) → IsStraight step goal x rest → IsPath step goal x (x ∷ rest)
path_of_straight step goal x rest straight = record {
  distinct = distinct_along step goal x rest straight;
  begins = refl;
  follows = follows_along step goal x rest straight;
  ends = ends_along step goal x rest straight;
}

-- a path leads from what has a rank
pub path_of_rank : {A : Type 0} (step : A → Option A) (goal : A → Bool) (x : A) (r : ℕ) → HasRank step goal x r → HasPath step goal x
path_of_rank step goal x r here =
    let straight = straight_of_rank step goal x r here in
    (x ∷ straight.0, path_of_straight step goal x straight.0 straight.1)

-- a goal has rank zero
pub rank_of_goal : {A : Type 0} (step : A → Option A) (goal : A → Bool) (x : A) → goal x ≡ true → (rank : ℕ) × HasRank step goal x rank
unfolding HasRank
rank_of_goal step goal x here = (0, here)

-- what leads to a thing that has a rank has one too
pub rank_before : {A : Type 0} (step : A → Option A) (goal : A → Bool) (x y : A) → step x ≡ Some y → (rank : ℕ) × HasRank step goal y rank → (rank : ℕ) × HasRank step goal x rank
unfolding HasRank
rank_before step goal x y to further = ⊎_elim
    (λ here. rank_of_goal step goal x here)
    (λ away. (suc further.0, (away, y, to, further.1)))
    (cases_Bool (goal x))

-- the first thing of a list has a rank, if each leads to the next and the last is a goal
rank_along : {A : Type 0} (step : A → Option A) (goal : A → Bool) (x : A) (rest : List A) → Follows step (x ∷ rest) → Ends goal (x ∷ rest) → (rank : ℕ) × HasRank step goal x rank
unfolding Follows Ends
rank_along step goal x [] follows ends = rank_of_goal step goal x ends
rank_along step goal x (y ∷ rest) follows ends = rank_before step goal x y follows.0 (rank_along step goal y rest follows.1 ends)

-- the same of a list that begins with the thing
rank_from : {A : Type 0} (step : A → Option A) (goal : A → Bool) (x : A) (path : List A) → first_of path ≡ Some x → Follows step path → Ends goal path → (rank : ℕ) × HasRank step goal x rank
rank_from step goal x [] begins follows ends = absurd (cc begins)
rank_from {A} step goal x (y ∷ rest) begins follows ends =
    subst (λ (z : A). (rank : ℕ) × HasRank step goal z rank) (same_Some y x begins) (rank_along step goal y rest follows ends)

-- what a path leads from has a rank: the steps to the first goal on the path
pub rank_of_path : {A : Type 0} (step : A → Option A) (goal : A → Bool) (x : A) → HasPath step goal x → (r : ℕ) × HasRank step goal x r
rank_of_path step goal x has = rank_from step goal x has.0 has.1.begins has.1.follows has.1.ends
