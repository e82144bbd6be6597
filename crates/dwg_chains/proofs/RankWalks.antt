-- Walks up to a rank: what is known after each turn.
use Rattle.std.proofs.Common.{◌≡◌, ◌+◌, ◌-◌, ◌<◌, ◌⊎◌, ℕ, zero, suc, Bool, true, false, List, length, Option, Some, None, refl, sym, ap, ◌∙◌, subst, inl, inr, ⊎_elim, arith}
use Rattle.std.proofs.Math.ListN.{set}
use Rattle.std.proofs.lemmas.List.{length-set}
use Rattle.std.proofs.lemmas.Option.{same_Some, none-some}
use Rattle.dwg_chains.specs.Paths.{HasRank}
use Rattle.dwg_chains.specs.Tables.{leads, marked, AreWithin}
use Rattle.dwg_chains.specs.Marks.{count_unmarked}
use Rattle.dwg_chains.specs.RankMarks.{IsAhead, HasNoRank, IsOnWay, AreKnown}
use Rattle.dwg_chains.proofs.Marking.{same_or_other, marked_same, marked_other, marked_still, leads_same, leads_other, count_set}

-- a thing has one rank
pub one_rank : {A : Type 0} (step : A → Option A) (goal : A → Bool) (x : A) (r s : ℕ) → HasRank step goal x r → HasRank step goal x s → r ≡ s
unfolding HasRank
one_rank step goal x zero zero here there = refl
one_rank step goal x zero (suc s) here there = absurd (cc (here, there.0))
one_rank step goal x (suc r) zero here there = absurd (cc (here.0, there))
one_rank step goal x (suc r) (suc s) here there =
    let same = same_Some here.1 there.1 (sym here.2 ∙ there.2) in
    ap (λ (n : ℕ). suc n) (one_rank step goal there.1 r s (subst (λ y. HasRank step goal y r) same here.3) there.3)

-- what lies ahead of x gives x its rank
pub rank_after : {A : Type 0} (step : A → Option A) (goal : A → Bool) (x y : A) (k s : ℕ) → IsAhead step goal x k y → HasRank step goal y s → HasRank step goal x (k + s)
unfolding HasRank IsAhead
rank_after step goal x y zero s ahead rank =
    let same : s ≡ 0 + s = omega arith in
    subst (λ (n : ℕ). HasRank step goal x n) same (subst (λ z. HasRank step goal z s) (sym ahead) rank)
rank_after step goal x y (suc k) s ahead rank =
    let same : suc (k + s) ≡ suc k + s = omega arith in
    let whole : HasRank step goal x (suc (k + s)) = (ahead.0, ahead.1, ahead.2, rank_after step goal ahead.1 y k s ahead.3 rank) in
    subst (λ (n : ℕ). HasRank step goal x n) same whole

-- what lies ahead of a thing with a rank has one
pub rank_ahead : {A : Type 0} (step : A → Option A) (goal : A → Bool) (x y : A) (k r : ℕ) → IsAhead step goal x k y → HasRank step goal x r → (s : ℕ) × (r ≡ k + s) × HasRank step goal y s
unfolding HasRank IsAhead
rank_ahead step goal x y zero r ahead rank = (r, omega arith, subst (λ z. HasRank step goal z r) ahead rank)
rank_ahead step goal x y (suc k) zero ahead rank = absurd (cc (ahead.0, rank))
rank_ahead step goal x y (suc k) (suc r) ahead rank =
    let same = same_Some rank.1 ahead.1 (sym rank.2 ∙ ahead.2) in
    let further = rank_ahead step goal ahead.1 y k r ahead.3 (subst (λ z. HasRank step goal z r) same rank.3) in
    (further.0, omega (arith, further.1), further.2)

-- one step further
pub ahead_more : {A : Type 0} (step : A → Option A) (goal : A → Bool) (x y z : A) (k : ℕ) → IsAhead step goal x k y → goal y ≡ false → step y ≡ Some z → IsAhead step goal x (suc k) z
unfolding IsAhead
ahead_more step goal x y z zero ahead away to = subst (λ w. IsAhead step goal w (suc zero) z) (sym ahead) (away, z, to, refl)
ahead_more step goal x y z (suc k) ahead away to = (ahead.0, ahead.1, ahead.2, ahead_more step goal ahead.1 y z k ahead.3 away to)

-- what leads nowhere and is no goal has no rank
pub none_ahead : {A : Type 0} (step : A → Option A) (goal : A → Bool) (x : A) (r : ℕ) → goal x ≡ false → step x ≡ None → HasRank step goal x r → ⊥
unfolding HasRank
none_ahead step goal x zero away to rank = cc (away, rank)
none_ahead step goal x (suc r) away to rank = cc (to, rank.2)

-- a way that comes back to itself leads to no rank
pub none_back : {A : Type 0} (step : A → Option A) (goal : A → Bool) (x y : A) (j k r : ℕ) → j < k → IsAhead step goal x j y → IsAhead step goal x k y → HasRank step goal y r → ⊥
none_back step goal x y j k r less near far rank =
    let same = one_rank step goal x (j + r) (k + r) (rank_after step goal x y j r near rank) (rank_after step goal x y k r far rank) in
    omega (arith, same)

-- what lies on the way of a thing without a rank has none
none_on : {A : Type 0} (step : A → Option A) (goal : A → Bool) (x y : A) (k : ℕ) → ((r : ℕ) → HasRank step goal x r → ⊥) → IsAhead step goal x k y → (r : ℕ) → HasRank step goal y r → ⊥
none_on step goal x y k none ahead r rank = none (k + r) (rank_after step goal x y k r ahead rank)

-- what leads to a thing without a rank has none
none_to : {A : Type 0} (step : A → Option A) (goal : A → Bool) (x y : A) (k : ℕ) → ((r : ℕ) → HasRank step goal y r → ⊥) → IsAhead step goal x k y → (r : ℕ) → HasRank step goal x r → ⊥
none_to step goal x y k none ahead r rank = let further = rank_ahead step goal x y k r ahead rank in none further.0 further.2

-- what is known where the places on the way have no rank
pub known_pathless : (up : List (Option ℕ)) (goals seen : List Bool) (ranks : List (Option ℕ)) (from count other more : ℕ) → HasNoRank up goals from → AreKnown up goals seen ranks from count → AreKnown up goals seen ranks other more
known_pathless up goals seen ranks from count other more none known = record {
  right = known.right;
  small = known.small;
  pathless = λ place walked empty. ⊎_elim
      (λ already. inl already)
      (λ on. inl (none_on (leads up) (marked goals) from place on.0 none on.2))
      (known.pathless place walked empty);
}

-- what is known where no place is left on the way
pub known_none : (up : List (Option ℕ)) (goals seen : List Bool) (ranks : List (Option ℕ)) (from other more : ℕ) → AreKnown up goals seen ranks from 0 → AreKnown up goals seen ranks other more
known_none up goals seen ranks from other more known = record {
  right = known.right;
  small = known.small;
  pathless = λ place walked empty. ⊎_elim
      (λ already. inl already)
      (λ on. absurd (omega (arith, on.1)))
      (known.pathless place walked empty);
}

-- what is known after one more place is seen on the way
pub known_seen : (up : List (Option ℕ)) (goals seen : List Bool) (ranks : List (Option ℕ)) (start count at : ℕ) → at < length seen → marked seen at ≡ false → IsAhead (leads up) (marked goals) start count at → AreKnown up goals seen ranks start count → AreKnown up goals (set seen at true) ranks start (count + 1)
known_seen up goals seen ranks start count at inside fresh ahead known = record {
  right = known.right;
  small = λ place rank here. omega (arith, known.small place rank here, count_set seen at inside fresh, length-set seen at true);
  pathless = λ place walked empty. ⊎_elim
      (λ same. inr (count, omega arith, subst (λ (p : ℕ). IsAhead (leads up) (marked goals) start count p) (sym same) ahead))
      (λ apart. ⊎_elim
      (λ already. inl already)
      (λ on. inr (on.0, omega (arith, on.1), on.2))
      (known.pathless place (sym (marked_other seen at place true apart) ∙ walked) empty))
      (same_or_other place at);
}

-- a place that was seen, has been given no rank and lies ahead has none
pub seen_pathless : (up : List (Option ℕ)) (goals seen : List Bool) (ranks : List (Option ℕ)) (start count at : ℕ) → marked seen at ≡ true → leads ranks at ≡ None → IsAhead (leads up) (marked goals) start count at → AreKnown up goals seen ranks start count → HasNoRank up goals start
seen_pathless up goals seen ranks start count at walked empty ahead known =
    let step = leads up in
    let goal = marked goals in
    ⊎_elim
    (λ already. none_to step goal start at count already ahead)
    (λ on. none_to step goal start at count (λ r rank. none_back step goal start at on.0 count r on.1 on.2 ahead rank) ahead)
    (known.pathless at walked empty)

-- what lies ahead of x and isn't x lies ahead of the next
ahead_past : {A : Type 0} (step : A → Option A) (goal : A → Bool) (x y : A) (k : ℕ) → IsAhead step goal x k y → (x ≡ y → ⊥) → (goal x ≡ false) × (z : A) × (step x ≡ Some z) × (j : ℕ) × (k ≡ suc j) × IsAhead step goal z j y
unfolding IsAhead
ahead_past step goal x y zero ahead apart = absurd (apart ahead)
ahead_past step goal x y (suc k) ahead apart = (ahead.0, ahead.1, ahead.2, k, refl, ahead.3)

-- what leads on has a higher rank than the next
pub rank_next : {A : Type 0} (step : A → Option A) (goal : A → Bool) (x y : A) (r : ℕ) → goal x ≡ false → step x ≡ Some y → HasRank step goal x r → (0 < r) × HasRank step goal y (r - 1)
unfolding HasRank
rank_next step goal x y zero away to rank = absurd (cc (away, rank))
rank_next step goal x y (suc r) away to rank =
    let same = same_Some rank.1 y (sym rank.2 ∙ to) in
    let less : r ≡ suc r - 1 = omega arith in
    (omega arith, subst (λ (n : ℕ). HasRank step goal y n) less (subst (λ z. HasRank step goal z r) same rank.3))

-- what is known after a place was given its rank, if the places after it on the way are known or lie on the new way
known_given : (up : List (Option ℕ)) (goals seen : List Bool) (ranks : List (Option ℕ)) (at left rank from count : ℕ) → at < length ranks → HasRank (leads up) (marked goals) at rank → rank + count_unmarked seen < length seen → AreKnown up goals seen ranks at left →
    ((place : ℕ) → (at ≡ place → ⊥) → IsOnWay up goals at left place → HasNoRank up goals place ⊎ IsOnWay up goals from count place) → AreKnown up goals seen (set ranks at (Some rank)) from count
known_given up goals seen ranks at left rank from count inside has low known after = record {
  right = λ place other here. ⊎_elim
      (λ same.
      let given = same_Some rank other (sym (leads_same ranks at (Some rank) inside) ∙ ap (λ (p : ℕ). leads (set ranks at (Some rank)) p) (sym same) ∙ here) in
      subst (λ (p : ℕ). HasRank (leads up) (marked goals) p other) (sym same) (subst (λ (r : ℕ). HasRank (leads up) (marked goals) at r) given has))
      (λ apart. known.right place other (sym (leads_other ranks at place (Some rank) apart) ∙ here))
      (same_or_other place at);
  small = λ place other here. ⊎_elim
      (λ same.
      let given = same_Some rank other (sym (leads_same ranks at (Some rank) inside) ∙ ap (λ (p : ℕ). leads (set ranks at (Some rank)) p) (sym same) ∙ here) in
      omega (arith, given, low))
      (λ apart. known.small place other (sym (leads_other ranks at place (Some rank) apart) ∙ here))
      (same_or_other place at);
  pathless = λ place walked empty. ⊎_elim
      (λ same. absurd (none-some rank (sym empty ∙ ap (λ (p : ℕ). leads (set ranks at (Some rank)) p) same ∙ leads_same ranks at (Some rank) inside)))
      (λ apart. ⊎_elim
      (λ already. inl already)
      (λ on. after place (λ same. apart (sym same)) on)
      (known.pathless place walked (sym (leads_other ranks at place (Some rank) apart) ∙ empty)))
      (same_or_other place at);
}

-- what is known after the goal of a way was given its rank
pub known_goal : (up : List (Option ℕ)) (goals seen : List Bool) (ranks : List (Option ℕ)) (at left rank : ℕ) → at < length ranks → marked goals at ≡ true → HasRank (leads up) (marked goals) at rank → rank + count_unmarked seen < length seen → AreKnown up goals seen ranks at left → AreKnown up goals seen (set ranks at (Some rank)) 0 0
known_goal up goals seen ranks at left rank inside goal has low known = known_given up goals seen ranks at left rank 0 0 inside has low known
    (λ place apart on. let past = ahead_past (leads up) (marked goals) at place on.0 on.2 apart in absurd (cc (goal, past.0)))

-- what is known after the last place of a way was given its rank
pub known_end : (up : List (Option ℕ)) (goals seen : List Bool) (ranks : List (Option ℕ)) (at left rank : ℕ) → at < length ranks → leads up at ≡ None → HasRank (leads up) (marked goals) at rank → rank + count_unmarked seen < length seen → AreKnown up goals seen ranks at left → AreKnown up goals seen (set ranks at (Some rank)) 0 0
known_end up goals seen ranks at left rank inside nowhere has low known = known_given up goals seen ranks at left rank 0 0 inside has low known
    (λ place apart on. let past = ahead_past (leads up) (marked goals) at place on.0 on.2 apart in absurd (none-some past.1 (sym nowhere ∙ past.2)))

-- what is known after a place on the way was given its rank
pub known_ranked : (up : List (Option ℕ)) (goals seen : List Bool) (ranks : List (Option ℕ)) (at next left less rank : ℕ) → at < length ranks → less + 1 ≡ left → leads up at ≡ Some next → HasRank (leads up) (marked goals) at rank → rank + count_unmarked seen < length seen → AreKnown up goals seen ranks at left → AreKnown up goals seen (set ranks at (Some rank)) next less
known_ranked up goals seen ranks at next left less rank inside one to has low known = known_given up goals seen ranks at left rank next less inside has low known
    (λ place apart on.
    let past = ahead_past (leads up) (marked goals) at place on.0 on.2 apart in
    let same = same_Some past.1 next (sym past.2 ∙ to) in
    inr (past.3, omega (arith, on.1, past.4), subst (λ (z : ℕ). IsAhead (leads up) (marked goals) z past.3 place) same past.5))

-- a way of no steps leads to where it begins
pub ahead_none : {A : Type 0} (step : A → Option A) (goal : A → Bool) (x y : A) → IsAhead step goal x 0 y → x ≡ y
unfolding IsAhead
ahead_none step goal x y ahead = ahead

-- no steps lead to where one is
pub ahead_here : {A : Type 0} (step : A → Option A) (goal : A → Bool) (x : A) → IsAhead step goal x 0 x
unfolding IsAhead
ahead_here step goal x = refl

-- a goal has rank zero
pub rank_goal : {A : Type 0} (step : A → Option A) (goal : A → Bool) (x : A) → goal x ≡ true → HasRank step goal x 0
unfolding HasRank
rank_goal step goal x is = is

-- a walk: the places that were walked over lie on the way from the start to the present place, and were not seen before
pub record IsWalk (up : List (Option ℕ)) (goals first seen : List Bool) (ranks : List (Option ℕ)) (start count at : ℕ) : Type 0 where
  pub inside : at < length up
  pub places : length seen ≡ length first
  pub ahead : IsAhead (leads up) (marked goals) start count at
  pub known : AreKnown up goals seen ranks start count
  pub fewer : count + count_unmarked seen ≡ count_unmarked first
  pub kept : (place : ℕ) → marked first place ≡ true → marked seen place ≡ true
  pub begun : 0 < count → marked seen start ≡ true

-- a walk begins
pub walk_begins : (up : List (Option ℕ)) (goals seen : List Bool) (ranks : List (Option ℕ)) (start : ℕ) → start < length up → AreKnown up goals seen ranks 0 0 → IsWalk up goals seen seen ranks start 0 start
walk_begins up goals seen ranks start inside known = record {
  inside = inside;
  places = refl;
  ahead = ahead_here (leads up) (marked goals) start;
  known = known_none up goals seen ranks 0 start 0 known;
  fewer = omega arith;
  kept = λ place before. before;
  begun = λ some. absurd (omega (arith, some));
}

-- the start of a walk that came to a place that was seen was seen
pub walk_ends : (up : List (Option ℕ)) (goals first seen : List Bool) (ranks : List (Option ℕ)) (start count at : ℕ) → IsWalk up goals first seen ranks start count at → marked seen at ≡ true → marked seen start ≡ true
walk_ends up goals first seen ranks start zero at walk walked = subst (λ (p : ℕ). marked seen p ≡ true) (sym (ahead_none (leads up) (marked goals) start at walk.ahead)) walked
walk_ends up goals first seen ranks start (suc count) at walk walked = walk.begun (omega arith)

-- what a walk knows of the present place once it is marked
pub record IsSeen (up : List (Option ℕ)) (goals first seen : List Bool) (ranks : List (Option ℕ)) (start count at : ℕ) : Type 0 where
  pub places : length seen ≡ length first
  pub ahead : IsAhead (leads up) (marked goals) start count at
  pub known : AreKnown up goals seen ranks start (count + 1)
  pub fewer : count + 1 + count_unmarked seen ≡ count_unmarked first
  pub kept : (place : ℕ) → marked first place ≡ true → marked seen place ≡ true
  pub begun : marked seen start ≡ true

-- the start is marked once the first place of a walk is
start_seen : (up : List (Option ℕ)) (goals first seen : List Bool) (ranks : List (Option ℕ)) (start count at : ℕ) → at < length seen → IsWalk up goals first seen ranks start count at → marked (set seen at true) start ≡ true
start_seen up goals first seen ranks start zero at inside walk =
    subst (λ (p : ℕ). marked (set seen at true) p ≡ true) (sym (ahead_none (leads up) (marked goals) start at walk.ahead)) (marked_same seen at true inside)
start_seen up goals first seen ranks start (suc count) at inside walk = marked_still seen at start inside (walk.begun (omega arith))

-- a walk marks the present place
pub walk_sees : (up : List (Option ℕ)) (goals first seen after : List Bool) (ranks : List (Option ℕ)) (start count at : ℕ) → length first ≡ length up → marked seen at ≡ false → after ≡ set seen at true → IsWalk up goals first seen ranks start count at → IsSeen up goals first after ranks start count at
walk_sees up goals first seen after ranks start count at whole fresh is walk =
    let inside : at < length seen = omega (arith, walk.inside, walk.places, whole) in
    let seen_now : IsSeen up goals first (set seen at true) ranks start count at = record {
      places = length-set seen at true ∙ walk.places;
      ahead = walk.ahead;
      known = known_seen up goals seen ranks start count at inside fresh walk.ahead walk.known;
      fewer = omega (arith, walk.fewer, count_set seen at inside fresh);
      kept = λ place before. marked_still seen at place inside (walk.kept place before);
      begun = start_seen up goals first seen ranks start count at inside walk;
    } in
    subst (λ (marks : List Bool). IsSeen up goals first marks ranks start count at) (sym is) seen_now

-- a walk goes on
pub walk_goes : (up : List (Option ℕ)) (goals first seen : List Bool) (ranks : List (Option ℕ)) (start count at next : ℕ) → AreWithin (length up) up → marked goals at ≡ false → leads up at ≡ Some next → IsSeen up goals first seen ranks start count at → IsWalk up goals first seen ranks start (count + 1) next
walk_goes up goals first seen ranks start count at next within away to walk = let one : suc count ≡ count + 1 = omega arith in record {
  inside = within at next to;
  places = walk.places;
  ahead = subst (λ (k : ℕ). IsAhead (leads up) (marked goals) start k next) one (ahead_more (leads up) (marked goals) start at next count walk.ahead away to);
  known = walk.known;
  fewer = walk.fewer;
  kept = walk.kept;
  begun = λ _. walk.begun;
}

-- the rank of the start, where a walk came to a goal
pub walk_goal : (up : List (Option ℕ)) (goals first seen : List Bool) (ranks : List (Option ℕ)) (start count at : ℕ) → marked goals at ≡ true → IsSeen up goals first seen ranks start count at → HasRank (leads up) (marked goals) start count
walk_goal up goals first seen ranks start count at goal walk =
    let none : count + 0 ≡ count = omega arith in
    subst (λ (r : ℕ). HasRank (leads up) (marked goals) start r) none
    (rank_after (leads up) (marked goals) start at count 0 walk.ahead (rank_goal (leads up) (marked goals) at goal))

-- what is known where a walk leads nowhere
pub walk_nowhere : (up : List (Option ℕ)) (goals first seen : List Bool) (ranks : List (Option ℕ)) (start count at : ℕ) → marked goals at ≡ false → leads up at ≡ None → IsSeen up goals first seen ranks start count at → AreKnown up goals seen ranks 0 0
walk_nowhere up goals first seen ranks start count at away nowhere walk =
    known_pathless up goals seen ranks start (count + 1) 0 0
    (none_to (leads up) (marked goals) start at count (λ r rank. none_ahead (leads up) (marked goals) at r away nowhere rank) walk.ahead) walk.known

-- what is known where a walk comes to a place that was seen and has no rank
pub walk_pathless : (up : List (Option ℕ)) (goals first seen : List Bool) (ranks : List (Option ℕ)) (start count at : ℕ) → marked seen at ≡ true → leads ranks at ≡ None → IsWalk up goals first seen ranks start count at → AreKnown up goals seen ranks 0 0
walk_pathless up goals first seen ranks start count at walked empty walk =
    known_pathless up goals seen ranks start count 0 0 (seen_pathless up goals seen ranks start count at walked empty walk.ahead walk.known) walk.known

-- the rank of the start, where a walk comes to a place with a rank
pub walk_ranked : (up : List (Option ℕ)) (goals first seen : List Bool) (ranks : List (Option ℕ)) (start count at rank : ℕ) → leads ranks at ≡ Some rank → IsWalk up goals first seen ranks start count at → HasRank (leads up) (marked goals) start (count + rank)
walk_ranked up goals first seen ranks start count at rank here walk = rank_after (leads up) (marked goals) start at count rank walk.ahead (walk.known.right at rank here)

-- a way of which the places are given their ranks: those that are left lie on the way from the present place
pub record IsGiven (up : List (Option ℕ)) (goals first seen : List Bool) (ranks : List (Option ℕ)) (at rank left : ℕ) : Type 0 where
  pub inside : at < length up
  pub places : length ranks ≡ length up
  pub same : seen ≡ first
  pub known : AreKnown up goals seen ranks at left
  pub has : HasRank (leads up) (marked goals) at rank
  pub small : rank + count_unmarked seen < length seen

-- a way begins
pub given_begins : (up : List (Option ℕ)) (goals seen : List Bool) (ranks : List (Option ℕ)) (start rank count left : ℕ) → start < length up → length ranks ≡ length up → count ≡ left → HasRank (leads up) (marked goals) start rank → rank + count_unmarked seen < length seen → AreKnown up goals seen ranks start count → IsGiven up goals seen seen ranks start rank left
given_begins up goals seen ranks start rank count left inside places whole has low known = record {
  inside = inside;
  places = places;
  same = refl;
  known = subst (λ (n : ℕ). AreKnown up goals seen ranks start n) whole known;
  has = has;
  small = low;
}

-- the next place is given its rank
pub given_goes : (up : List (Option ℕ)) (goals first seen : List Bool) (ranks after : List (Option ℕ)) (at next rank left less : ℕ) → AreWithin (length up) up → after ≡ set ranks at (Some rank) → marked goals at ≡ false → leads up at ≡ Some next → less + 1 ≡ left → IsGiven up goals first seen ranks at rank left → IsGiven up goals first seen after next (rank - 1) less
given_goes up goals first seen ranks after at next rank left less within is away to one given =
    let inside : at < length ranks = omega (arith, given.inside, given.places) in
    let further = rank_next (leads up) (marked goals) at next rank away to given.has in
    let goes : IsGiven up goals first seen (set ranks at (Some rank)) next (rank - 1) less = record {
      inside = within at next to;
      places = length-set ranks at (Some rank) ∙ given.places;
      same = given.same;
      known = known_ranked up goals seen ranks at next left less rank inside one to given.has given.small given.known;
      has = further.1;
      small = omega (arith, given.small);
    } in
    subst (λ (table : List (Option ℕ)). IsGiven up goals first seen table next (rank - 1) less) (sym is) goes

-- what is known after the goal of a way is given its rank
pub given_goal : (up : List (Option ℕ)) (goals first seen : List Bool) (ranks after : List (Option ℕ)) (at rank left : ℕ) → after ≡ set ranks at (Some rank) → marked goals at ≡ true → IsGiven up goals first seen ranks at rank left → AreKnown up goals seen after 0 0
given_goal up goals first seen ranks after at rank left is goal given =
    subst (λ (table : List (Option ℕ)). AreKnown up goals seen table 0 0) (sym is)
    (known_goal up goals seen ranks at left rank (omega (arith, given.inside, given.places)) goal given.has given.small given.known)

-- what is known after a place that leads nowhere is given its rank
pub given_end : (up : List (Option ℕ)) (goals first seen : List Bool) (ranks after : List (Option ℕ)) (at rank left : ℕ) → after ≡ set ranks at (Some rank) → leads up at ≡ None → IsGiven up goals first seen ranks at rank left → AreKnown up goals seen after 0 0
given_end up goals first seen ranks after at rank left is nowhere given =
    subst (λ (table : List (Option ℕ)). AreKnown up goals seen table 0 0) (sym is)
    (known_end up goals seen ranks at left rank (omega (arith, given.inside, given.places)) nowhere given.has given.small given.known)

-- what is known after all places of a way are given their ranks
pub given_all : (up : List (Option ℕ)) (goals first seen : List Bool) (ranks : List (Option ℕ)) (at rank left : ℕ) → left ≡ 0 → IsGiven up goals first seen ranks at rank left → AreKnown up goals seen ranks 0 0
given_all up goals first seen ranks at rank left none given =
    known_none up goals seen ranks at 0 0 (subst (λ (n : ℕ). AreKnown up goals seen ranks at n) none given.known)
