-- What numbers given to things report of paths and chains.
use Rattle.std.proofs.Common.{◌≡◌, sym, refl, ap, ◌∙◌, subst, ⊎_elim, arith}
use Rattle.std.proofs.lemmas.Bool.{cases_Bool, both_ways}
use Rattle.std.proofs.lemmas.Option.{same_Some, slice_get_read, slice_get_within}
use Rattle.std.specs.Prelude.{⊤, ◌<◌, ◌≤◌, ◌+◌, ◌-◌, ◌↔◌, ℕ, zero, suc, Bool, true, false, List, [], ◌∷◌, length, Option, Some, IsTrue, Contains, slice_get}
use Rattle.std.specs.List.{list_any}
use Rattle.dwg_chains.specs.Numbered.{FallToGoals, RiseAlong, IsSame, PassesThese, AreNumberedByPlace}
use Rattle.dwg_chains.specs.Paths.{AreDistinct, Follows, Begins, Ends, IsChain, HasChain, HasPath, HasRank}
use Rattle.dwg_chains.proofs.MemberLemmas.{contains_none, contains_first, contains_after, contains_cases, distinct_at_most}
use Rattle.dwg_chains.proofs.RankLemmas.{IsStraight, path_of_rank, rank_of_goal, rank_before, rank_of_straight}
use Rattle.dwg_chains.proofs.TestLemmas.{any_of_one, one_of_any}

-- what has a number has a rank
rank_of_number : {A : Type 0} (step : A → Option A) (goal : A → Bool) (number : A → Option ℕ) → FallToGoals step goal number → (n : ℕ) (x : A) → number x ≡ Some n → (rank : ℕ) × HasRank step goal x rank
rank_of_number step goal number fall zero x is = rank_of_goal step goal x (fall.ends x is)
rank_of_number step goal number fall (suc n) x is =
    let next = fall.falls x n is in rank_before step goal x next.0 next.1 (rank_of_number step goal number fall n next.0 next.2)

-- a path leads from what has a number
pub path_of_number : {A : Type 0} (step : A → Option A) (goal : A → Bool) (number : A → Option ℕ) → FallToGoals step goal number → (x : A) (n : ℕ) → number x ≡ Some n → HasPath step goal x
path_of_number step goal number fall x n is =
    let ranked = rank_of_number step goal number fall n x is in path_of_rank step goal x ranked.0 ranked.1

-- ranks are such numbers
pub ranks_fall : {A : Type 0} (step : A → Option A) (goal : A → Bool) (number : A → Option ℕ) → ((x : A) (n : ℕ) → (number x ≡ Some n) ↔ HasRank step goal x n) → FallToGoals step goal number
unfolding HasRank
ranks_fall step goal number are = record {
  ends = λ x is. (are x 0).0 is;
  falls = λ x n is. let has = (are x (suc n)).0 is in (has.1, has.2, (are has.1 n).1 has.3);
}

-- the things of a list are members, whose numbers rise by one
abbrev AreNumbered : {A : Type 0} → List A → (A → Option ℕ) → ℕ → List A → Type 0
AreNumbered {A} members number from [] = ⊤
AreNumbered {A} members number from (x ∷ xs) = Contains members x × (number x ≡ Some from) × AreNumbered members number (suc from) xs

-- each of them is a member and has one of the numbers
numbered_inside : {A : Type 0} (members : List A) (number : A → Option ℕ) (from : ℕ) (things : List A) → AreNumbered members number from things → (y : A) → Contains things y → Contains members y × (n : ℕ) × (from ≤ n) × (number y ≡ Some n)
numbered_inside members number from [] are y inside = absurd (contains_none y inside)
numbered_inside {A} members number from (x ∷ xs) are y inside = ⊎_elim
    (λ same. (subst (λ (z : A). Contains members z) same are.0, from, omega arith, subst (λ (z : A). number z ≡ Some from) same are.1))
    (λ after. let further = numbered_inside members number (suc from) xs are.2 y after in (further.0, further.1, omega (arith, further.2), further.3))
    (contains_cases x xs y inside)

-- they are distinct
distinct_numbered : {A : Type 0} (members : List A) (number : A → Option ℕ) (from : ℕ) (things : List A) → AreNumbered members number from things → AreDistinct things
unfolding AreDistinct
distinct_numbered members number from [] are = tt
distinct_numbered members number from (x ∷ xs) are = (
  λ again. let further = numbered_inside members number (suc from) xs are.2 x again in
      let same : from ≡ further.1 = same_Some from further.1 (sym are.1 ∙ further.3) in
      absurd (omega (arith, same, further.2)),
  distinct_numbered members number (suc from) xs are.2,
)

-- a list of things from one with a number up to the last
abbrev IsWalk : {A : Type 0} → List A → (A → Option A) → (A → Bool) → (A → Option ℕ) → ℕ → ℕ → A → List A → Type 0
IsWalk {A} members step last number more from x rest = (length rest ≡ more) × AreNumbered members number from (x ∷ rest) × Follows step (x ∷ rest) × Ends last (x ∷ rest)

-- from a member as many steps as are left lead to a last
walk : {A : Type 0} (members : List A) (step : A → Option A) (first last : A → Bool) (number : A → Option ℕ) → RiseAlong members step first last number
    → (more from : ℕ) (x : A) → Contains members x → number x ≡ Some from → from + suc more ≡ length members → (rest : List A) × IsWalk members step last number more from x rest
unfolding Follows Ends
walk members step first last number rise zero from x inside is count = ([], (refl, (inside, is, tt), tt, rise.ends x from inside is (omega (arith, count))))
walk members step first last number rise (suc more) from x inside is count =
    let next = rise.rises x from inside is (omega (arith, count)) in
    let further = walk members step first last number rise more (suc from) next.0 next.2 next.3 (omega (arith, count)) in
    (next.0 ∷ further.0, (ap suc further.1.0, (inside, is, further.1.1), (next.1, further.1.2), further.1.3))

-- distinct members that are as many as there are members are all of them
all_of_them : {A : Type 0} (same : A → A → Bool) → IsSame same → (members things : List A) → AreDistinct things → ((x : A) → Contains things x → Contains members x) → length members ≤ length things
    → (x : A) → Contains members x → Contains things x
unfolding AreDistinct
all_of_them {A} same reports members things distinct within many x inside = ⊎_elim
    (λ (is : list_any (same x) things ≡ true).
    let one = one_of_any (same x) things is in
    subst (λ (z : A). Contains things z) (sym ((reports x one.0).0 one.2)) one.1)
    (λ (fails : list_any (same x) things ≡ false).
    let new : Contains things x → ⊥ = λ again. both_ways (list_any (same x) things) fails (any_of_one (same x) things x again ((reports x x).1 refl)) in
    let fewer : length (x ∷ things) ≤ length members = distinct_at_most (x ∷ things) members (new, distinct) (λ y along. ⊎_elim
    (λ is. subst (λ (z : A). Contains members z) is inside)
    (λ after. within y after)
    (contains_cases x things y along)) in
    absurd (omega (arith, fewer, many)))
    (cases_Bool (list_any (same x) things))

-- members whose numbers rise along the steps stand in a chain
pub chain_of_numbers : {A : Type 0} (same : A → A → Bool) (members : List A) (step : A → Option A) (member first last : A → Bool) (number : A → Option ℕ) → IsSame same → PassesThese member members
    → RiseAlong members step first last number → HasChain step member first last
chain_of_numbers {A} same members step member first last number reports passes rise =
    let x : A = rise.begins.0 in
    let some : 0 < length members = omega (arith, rise.begins.1.1) in
    let way = walk members step first last number rise (length members - 1) 0 x rise.begins.1 rise.begins.3 (omega (arith, some)) in
    let inside : (y : A) → Contains (x ∷ way.0) y → Contains members y = λ y along. (numbered_inside members number 0 (x ∷ way.0) way.1.1 y along).0 in
    let distinct : AreDistinct (x ∷ way.0) = distinct_numbered members number 0 (x ∷ way.0) way.1.1 in
    let many : length members ≤ length (x ∷ way.0) = omega (arith, way.1.0, some) in (
      x ∷ way.0,
      record {
        distinct = distinct;
        whole = λ y. (
          λ is. all_of_them same reports members (x ∷ way.0) distinct inside many y ((passes y).0 is),
          λ along. (passes y).1 (inside y along),
        );
        begins = rise.begins.2;
        follows = way.1.2;
        ends = way.1.3;
      },
    )

-- of two things one after the other, the first leads to the second
pub follows_at : {A : Type 0} (step : A → Option A) (things : List A) → Follows step things → (k : ℕ) (x y : A) → slice_get things k ≡ Some x → slice_get things (suc k) ≡ Some y → step x ≡ Some y
unfolding Follows
follows_at step [] follows k x y here next = absurd (cc here)
follows_at step (z ∷ []) follows k x y here next = absurd (omega (arith, slice_get_within (z ∷ []) (suc k) y next))
follows_at {A} step (z ∷ w ∷ rest) follows zero x y here next =
    let first : z ≡ x = same_Some z x here in
    let second : w ≡ y = same_Some w y next in
    subst (λ (v : A). step v ≡ Some y) first (follows.0 ∙ ap Some second)
follows_at step (z ∷ w ∷ rest) follows (suc k) x y here next = follows_at step (w ∷ rest) follows.1 k x y here next

-- the thing after which there is none passes the test for the last
pub ends_at : {A : Type 0} (last : A → Bool) (things : List A) → Ends last things → (k : ℕ) (x : A) → slice_get things k ≡ Some x → suc k ≡ length things → IsTrue (last x)
unfolding Ends
ends_at last [] ends k x here is = absurd (cc here)
ends_at {A} last (z ∷ []) ends zero x here is = subst (λ (v : A). IsTrue (last v)) (same_Some z x here) ends
ends_at last (z ∷ []) ends (suc k) x here is = absurd (omega (arith, is))
ends_at last (z ∷ w ∷ rest) ends zero x here is = absurd (omega (arith, is))
ends_at last (z ∷ w ∷ rest) ends (suc k) x here is = ends_at last (w ∷ rest) ends k x here (omega (arith, is))

-- what a list contains stands at a place
pub stands_at : {A : Type 0} (things : List A) (x : A) → Contains things x → (k : ℕ) × (k < length things) × (slice_get things k ≡ Some x)
stands_at things x inside = (inside.0, inside.1, slice_get_read things (length things) inside.0 x refl inside.1 (sym inside.2))

-- something stands at each place
pub stands_there : {A : Type 0} (things : List A) (k : ℕ) → k < length things → (x : A) × (slice_get things k ≡ Some x)
stands_there [] k within = absurd (omega (arith, within))
stands_there (x ∷ more) zero within = (x, refl)
stands_there (x ∷ more) (suc k) within = stands_there more k (omega (arith, within))

-- what stands at a place is contained
pub contains_there : {A : Type 0} (things : List A) (k : ℕ) (x : A) → slice_get things k ≡ Some x → Contains things x
contains_there [] k x here = absurd (cc here)
contains_there {A} (y ∷ more) zero x here = subst (λ (z : A). Contains (y ∷ more) z) (same_Some y x here) (contains_first y more)
contains_there (y ∷ more) (suc k) x here = contains_after y more x (contains_there more k x here)

-- the first of a list passes the test that it begins with
first_begins : {A : Type 0} (first : A → Bool) (things : List A) → Begins first things → (x : A) × (slice_get things 0 ≡ Some x) × IsTrue (first x)
first_begins first [] begins = absurd begins
first_begins first (x ∷ rest) begins = (x, refl, begins)

-- the places in a chain are numbers that rise along it
pub places_rise : {A : Type 0} (members : List A) (step : A → Option A) (member first last : A → Bool) (number : A → Option ℕ) (chain : List A) → AreDistinct members → PassesThese member members
    → IsChain step member first last chain → AreNumberedByPlace chain number → RiseAlong members step first last number
places_rise {A} members step member first last number chain distinct passes is numbered = record {
  begins = let begin = first_begins first chain is.begins in (begin.0, into begin.0 (contains_there chain 0 begin.0 begin.1), begin.2, numbered 0 begin.0 begin.1);
  small = λ x inside. let at = stands_at chain x (out x inside) in (at.0, numbered at.0 x at.2, omega (arith, at.1, count));
  rises = λ x n inside has less. let at = stands_at chain x (out x inside) in
      let here : at.0 ≡ n = same_Some at.0 n (sym (numbered at.0 x at.2) ∙ has) in
      let next = stands_there chain (suc at.0) (omega (arith, here, less, count)) in
      (next.0, follows_at step chain is.follows at.0 x next.0 at.2 next.1, into next.0 (contains_there chain (suc at.0) next.0 next.1), numbered (suc at.0) next.0 next.1 ∙ ap (λ (k : ℕ). Some (suc k)) here);
  ends = λ x n inside has last_one. let at = stands_at chain x (out x inside) in
      let here : at.0 ≡ n = same_Some at.0 n (sym (numbered at.0 x at.2) ∙ has) in
      ends_at last chain is.ends at.0 x at.2 (omega (arith, here, last_one, count));
}
  where
    into : (x : A) → Contains chain x → Contains members x
    into x along = (passes x).0 ((is.whole x).1 along)

    out : (x : A) → Contains members x → Contains chain x
    out x inside = (is.whole x).0 ((passes x).1 inside)

    count : length chain ≡ length members
    count = omega (arith, distinct_at_most chain members is.distinct into, distinct_at_most members chain distinct out)

-- what stands at a place of a straight way has as many steps to go as stand after it
pub rank_at_place : {A : Type 0} (step : A → Option A) (goal : A → Bool) (x : A) (rest : List A) → IsStraight step goal x rest → (k rank : ℕ) (y : A) → rank + k ≡ length rest → slice_get (x ∷ rest) k ≡ Some y
    → HasRank step goal y rank
rank_at_place {A} step goal x rest straight zero rank y count here =
    let all : length rest ≡ rank = omega (arith, count) in
    subst (λ (z : A). HasRank step goal z rank) (same_Some x y here) (subst (λ (n : ℕ). HasRank step goal x n) all (rank_of_straight step goal x rest straight))
rank_at_place step goal x [] straight (suc k) rank y count here = absurd (omega (arith, slice_get_within (x ∷ []) (suc k) y here))
rank_at_place step goal x (z ∷ rest) straight (suc k) rank y count here = rank_at_place step goal z rest straight.2 k rank y (omega (arith, count)) here
