-- Laws of places and things: where steps and tests over the places of a list say what they say over its things, so do ranks, paths and chains.
use Rattle.std.proofs.Common.{◌≡◌, sym, refl, ap, ◌∙◌, subst, ⊎_elim, arith}
use Rattle.std.proofs.lemmas.Option.{same_Some}
use Rattle.std.specs.Prelude.{⊤, ℕ, zero, suc, ◌<◌, ◌↔◌, Bool, List, [], ◌∷◌, length, Option, Some, None, slice_get, IsTrue, Contains}
use Rattle.dwg_chains.specs.Paths.{AreDistinct, Follows, Begins, Ends, HasPath, HasRank, HasChain}
use Rattle.dwg_chains.proofs.MemberLemmas.{contains_none, contains_first, contains_after, contains_cases}
use Rattle.dwg_chains.proofs.RankLemmas.{path_of_rank, rank_of_path}
use Rattle.dwg_chains.specs.ChainTests.{IsAmong}
use Rattle.dwg_chains.specs.ThingsAtPlaces.{AreChainsSeen, IsSeen, TestsAgree}

-- where the thing at a place leads to another, the place leads to one where that stands
place_ahead : {B : Type 0} (all : List B) (step_place : ℕ → Option ℕ) (step_thing : B → Option B) → IsSeen all step_place step_thing → (i : ℕ) (x y : B) → slice_get all i ≡ Some x → step_thing x ≡ Some y → (j : ℕ) × (step_place i ≡ Some j) × (slice_get all j ≡ Some y)
place_ahead {B} all step_place step_thing seen i x y at to = go (step_place i) refl
  where
    go : (next : Option ℕ) → step_place i ≡ next → (j : ℕ) × (step_place i ≡ Some j) × (slice_get all j ≡ Some y)
    go None is = absurd (cc (seen.stops i x at is, to))
    go (Some j) is = let further = seen.goes_on i x j at is in
        let same : further.0 ≡ y = cc (further.2, to) in
        (j, is, subst (λ (z : B). slice_get all j ≡ Some z) same further.1)

-- the rank of a place is one of the thing there
rank_over : {B : Type 0} (all : List B) (step_place : ℕ → Option ℕ) (step_thing : B → Option B) (goal_place : ℕ → Bool) (goal_thing : B → Bool) → IsSeen all step_place step_thing → TestsAgree all goal_place goal_thing → (i : ℕ) (x : B) (rank : ℕ) → slice_get all i ≡ Some x → HasRank step_place goal_place i rank → HasRank step_thing goal_thing x rank
unfolding HasRank
rank_over all step_place step_thing goal_place goal_thing seen agree i x zero at has = sym (agree i x at) ∙ has
rank_over all step_place step_thing goal_place goal_thing seen agree i x (suc rank) at has =
    let next = seen.goes_on i x has.1 at has.2 in
    (sym (agree i x at) ∙ has.0, next.0, next.2, rank_over all step_place step_thing goal_place goal_thing seen agree has.1 next.0 rank next.1 has.3)

-- the rank of a thing is one of each place where it stands
rank_back : {B : Type 0} (all : List B) (step_place : ℕ → Option ℕ) (step_thing : B → Option B) (goal_place : ℕ → Bool) (goal_thing : B → Bool) → IsSeen all step_place step_thing → TestsAgree all goal_place goal_thing → (i : ℕ) (x : B) (rank : ℕ) → slice_get all i ≡ Some x → HasRank step_thing goal_thing x rank → HasRank step_place goal_place i rank
unfolding HasRank
rank_back all step_place step_thing goal_place goal_thing seen agree i x zero at has = agree i x at ∙ has
rank_back all step_place step_thing goal_place goal_thing seen agree i x (suc rank) at has =
    let next = place_ahead all step_place step_thing seen i x has.1 at has.2 in
    (agree i x at ∙ has.0, next.0, next.1, rank_back all step_place step_thing goal_place goal_thing seen agree next.0 has.1 rank next.2 has.3)

-- a place and the thing there have the same ranks
pub rank_seen : {B : Type 0} (all : List B) (step_place : ℕ → Option ℕ) (step_thing : B → Option B) (goal_place : ℕ → Bool) (goal_thing : B → Bool) → IsSeen all step_place step_thing → TestsAgree all goal_place goal_thing → (i : ℕ) (x : B) (rank : ℕ) → slice_get all i ≡ Some x → HasRank step_place goal_place i rank ↔ HasRank step_thing goal_thing x rank
rank_seen all step_place step_thing goal_place goal_thing seen agree i x rank at = (
  λ has. rank_over all step_place step_thing goal_place goal_thing seen agree i x rank at has,
  λ has. rank_back all step_place step_thing goal_place goal_thing seen agree i x rank at has,
)

-- a path leads from a place exactly where one leads from the thing there
pub path_seen : {B : Type 0} (all : List B) (step_place : ℕ → Option ℕ) (step_thing : B → Option B) (goal_place : ℕ → Bool) (goal_thing : B → Bool) → IsSeen all step_place step_thing → TestsAgree all goal_place goal_thing → (i : ℕ) (x : B) → slice_get all i ≡ Some x → HasPath step_place goal_place i ↔ HasPath step_thing goal_thing x
path_seen all step_place step_thing goal_place goal_thing seen agree i x at = (
  λ has. let ranked = rank_of_path step_place goal_place i has in
      path_of_rank step_thing goal_thing x ranked.0 (rank_over all step_place step_thing goal_place goal_thing seen agree i x ranked.0 at ranked.1),
  λ has. let ranked = rank_of_path step_thing goal_thing x has in
      path_of_rank step_place goal_place i ranked.0 (rank_back all step_place step_thing goal_place goal_thing seen agree i x ranked.0 at ranked.1),
)

-- what stands at a place is in the list
pub contains_of_place : {B : Type 0} (all : List B) (i : ℕ) (x : B) → slice_get all i ≡ Some x → Contains all x
contains_of_place [] i x at = absurd (cc at)
contains_of_place {B} (y ∷ rest) zero x at = subst (λ (z : B). Contains (y ∷ rest) z) (same_Some y x at) (contains_first y rest)
contains_of_place (y ∷ rest) (suc i) x at = contains_after y rest x (contains_of_place rest i x at)

-- at a place within the list stands a thing
thing_within : {B : Type 0} (all : List B) (i : ℕ) → i < length all → (x : B) × (slice_get all i ≡ Some x)
thing_within [] i within = absurd (omega (arith, within))
thing_within (y ∷ rest) zero within = (y, refl)
thing_within (y ∷ rest) (suc i) within = thing_within rest i (omega (arith, within))

-- what is in the list stands at a place
pub place_of_contained : {B : Type 0} (all : List B) (x : B) → Contains all x → (i : ℕ) × (slice_get all i ≡ Some x)
place_of_contained [] x inside = absurd (contains_none x inside)
place_of_contained (y ∷ rest) x inside = ⊎_elim
    (λ same. (zero, ap Some same))
    (λ after. let further = place_of_contained rest x after in (suc further.0, further.1))
    (contains_cases y rest x inside)

-- a thing stands at one place, where things are distinct
pub one_place : {B : Type 0} (all : List B) (i j : ℕ) (x : B) → AreDistinct all → slice_get all i ≡ Some x → slice_get all j ≡ Some x → i ≡ j
unfolding AreDistinct
one_place [] i j x distinct here there = absurd (cc here)
one_place (y ∷ rest) zero zero x distinct here there = refl
one_place {B} (y ∷ rest) zero (suc j) x distinct here there =
    absurd (distinct.0 (subst (λ (z : B). Contains rest z) (sym (same_Some y x here)) (contains_of_place rest j x there)))
one_place {B} (y ∷ rest) (suc i) zero x distinct here there =
    absurd (distinct.0 (subst (λ (z : B). Contains rest z) (sym (same_Some y x there)) (contains_of_place rest i x here)))
one_place (y ∷ rest) (suc i) (suc j) x distinct here there = ap suc (one_place rest i j x distinct.1 here there)

-- at each place of the one list stands the thing of the other
AreAt : {B : Type 0} → List B → List ℕ → List B → Type 0
AreAt {B} all [] [] = ⊤
AreAt {B} all [] (x ∷ xs) = ⊥
AreAt {B} all (i ∷ is) [] = ⊥
AreAt {B} all (i ∷ is) (x ∷ xs) = (slice_get all i ≡ Some x) × AreAt all is xs

-- what stands at places of a list
things_at : {B : Type 0} (all : List B) (places : List ℕ) → ((i : ℕ) → Contains places i → i < length all) → (things : List B) × AreAt all places things
unfolding AreAt
things_at all [] within = ([], tt)
things_at all (i ∷ is) within =
    let here = thing_within all i (within i (contains_first i is)) in
    let further = things_at all is (λ j inside. within j (contains_after i is j inside)) in
    (here.0 ∷ further.0, (here.1, further.1))

-- where things of a list stand
places_of : {B : Type 0} (all things : List B) → ((x : B) → Contains things x → Contains all x) → (places : List ℕ) × AreAt all places things
unfolding AreAt
places_of all [] within = ([], tt)
places_of all (x ∷ xs) within =
    let here = place_of_contained all x (within x (contains_first x xs)) in
    let further = places_of all xs (λ y inside. within y (contains_after x xs y inside)) in
    (here.0 ∷ further.0, (here.1, further.1))

-- the thing at one of the places is one of the things
thing_found : {B : Type 0} (all : List B) (places : List ℕ) (things : List B) (i : ℕ) → AreAt all places things → Contains places i → (x : B) × Contains things x × (slice_get all i ≡ Some x)
unfolding AreAt
thing_found all [] [] i are inside = absurd (contains_none i inside)
thing_found all [] (x ∷ xs) i are inside = absurd are
thing_found all (j ∷ js) [] i are inside = absurd are
thing_found {B} all (j ∷ js) (x ∷ xs) i are inside = ⊎_elim
    (λ same. (x, contains_first x xs, subst (λ (k : ℕ). slice_get all k ≡ Some x) same are.0))
    (λ after. let further = thing_found all js xs i are.1 after in (further.0, contains_after x xs further.0 further.1, further.2))
    (contains_cases j js i inside)

-- one of the things stands at one of the places
place_found : {B : Type 0} (all : List B) (places : List ℕ) (things : List B) (x : B) → AreAt all places things → Contains things x → (i : ℕ) × Contains places i × (slice_get all i ≡ Some x)
unfolding AreAt
place_found all [] [] x are inside = absurd (contains_none x inside)
place_found all [] (y ∷ ys) x are inside = absurd are
place_found all (i ∷ is) [] x are inside = absurd are
place_found {B} all (i ∷ is) (y ∷ ys) x are inside = ⊎_elim
    (λ same. (i, contains_first i is, are.0 ∙ ap Some same))
    (λ after. let further = place_found all is ys x are.1 after in (further.0, contains_after i is further.0 further.1, further.2))
    (contains_cases y ys x inside)

-- things at distinct places are distinct, where those of the whole list are
distinct_over : {B : Type 0} (all : List B) (places : List ℕ) (things : List B) → AreDistinct all → AreAt all places things → AreDistinct places → AreDistinct things
unfolding AreAt AreDistinct
distinct_over all [] [] whole are distinct = tt
distinct_over all [] (x ∷ xs) whole are distinct = absurd are
distinct_over all (i ∷ is) [] whole are distinct = absurd are
distinct_over all (i ∷ is) (x ∷ xs) whole are distinct = (
  λ again. let found = place_found all is xs x are.1 again in
      distinct.0 (subst (λ (k : ℕ). Contains is k) (one_place all found.0 i x whole found.2 are.0) found.1),
  distinct_over all is xs whole are.1 distinct.1,
)

-- the places of distinct things are distinct
distinct_back : {B : Type 0} (all : List B) (places : List ℕ) (things : List B) → AreAt all places things → AreDistinct things → AreDistinct places
unfolding AreAt AreDistinct
distinct_back all [] [] are distinct = tt
distinct_back all [] (x ∷ xs) are distinct = absurd are
distinct_back all (i ∷ is) [] are distinct = absurd are
distinct_back {B} all (i ∷ is) (x ∷ xs) are distinct = (
  λ again. let found = thing_found all is xs i are.1 again in
      let same : found.0 ≡ x = cc (found.2, are.0) in
      distinct.0 (subst (λ (z : B). Contains xs z) same found.1),
  distinct_back all is xs are.1 distinct.1,
)

-- the first place passes exactly where the first thing does
begins_seen : {B : Type 0} (all : List B) (test_place : ℕ → Bool) (test_thing : B → Bool) (places : List ℕ) (things : List B) → TestsAgree all test_place test_thing → AreAt all places things → Begins test_place places ↔ Begins test_thing things
unfolding AreAt
begins_seen all test_place test_thing [] [] agree are = (λ h. h, λ h. h)
begins_seen all test_place test_thing [] (x ∷ xs) agree are = absurd are
begins_seen all test_place test_thing (i ∷ is) [] agree are = absurd are
begins_seen all test_place test_thing (i ∷ is) (x ∷ xs) agree are = (λ here. sym (agree i x are.0) ∙ here, λ here. agree i x are.0 ∙ here)

-- the last place passes exactly where the last thing does
ends_seen : {B : Type 0} (all : List B) (test_place : ℕ → Bool) (test_thing : B → Bool) (places : List ℕ) (things : List B) → TestsAgree all test_place test_thing → AreAt all places things → Ends test_place places ↔ Ends test_thing things
unfolding AreAt Ends
ends_seen all test_place test_thing [] [] agree are = (λ h. h, λ h. h)
ends_seen all test_place test_thing [] (x ∷ xs) agree are = absurd are
ends_seen all test_place test_thing (i ∷ is) [] agree are = absurd are
ends_seen all test_place test_thing (i ∷ []) (x ∷ []) agree are = (λ here. sym (agree i x are.0) ∙ here, λ here. agree i x are.0 ∙ here)
ends_seen all test_place test_thing (i ∷ []) (x ∷ y ∷ ys) agree are = absurd are.1
ends_seen all test_place test_thing (i ∷ j ∷ js) (x ∷ []) agree are = absurd are.1
ends_seen all test_place test_thing (i ∷ j ∷ js) (x ∷ y ∷ ys) agree are = ends_seen all test_place test_thing (j ∷ js) (y ∷ ys) agree are.1

-- things lead to each other as their places do
follows_over : {B : Type 0} (all : List B) (step_place : ℕ → Option ℕ) (step_thing : B → Option B) (places : List ℕ) (things : List B) → IsSeen all step_place step_thing → AreAt all places things → Follows step_place places → Follows step_thing things
unfolding AreAt Follows
follows_over all step_place step_thing [] [] seen are follows = tt
follows_over all step_place step_thing [] (x ∷ xs) seen are follows = absurd are
follows_over all step_place step_thing (i ∷ is) [] seen are follows = absurd are
follows_over all step_place step_thing (i ∷ []) (x ∷ []) seen are follows = tt
follows_over all step_place step_thing (i ∷ []) (x ∷ y ∷ ys) seen are follows = absurd are.1
follows_over all step_place step_thing (i ∷ j ∷ js) (x ∷ []) seen are follows = absurd are.1
follows_over all step_place step_thing (i ∷ j ∷ js) (x ∷ y ∷ ys) seen are follows =
    let next = seen.goes_on i x j are.0 follows.0 in
    let same : slice_get all j ≡ Some y = are.1.0 in
    (cc (next.1, next.2, same), follows_over all step_place step_thing (j ∷ js) (y ∷ ys) seen are.1 follows.1)

-- places lead to each other as the things there do, where things are distinct
follows_back : {B : Type 0} (all : List B) (step_place : ℕ → Option ℕ) (step_thing : B → Option B) (places : List ℕ) (things : List B) → AreDistinct all → IsSeen all step_place step_thing → AreAt all places things → Follows step_thing things → Follows step_place places
unfolding AreAt Follows
follows_back all step_place step_thing [] [] whole seen are follows = tt
follows_back all step_place step_thing [] (x ∷ xs) whole seen are follows = absurd are
follows_back all step_place step_thing (i ∷ is) [] whole seen are follows = absurd are
follows_back all step_place step_thing (i ∷ []) (x ∷ []) whole seen are follows = tt
follows_back all step_place step_thing (i ∷ []) (x ∷ y ∷ ys) whole seen are follows = absurd are.1
follows_back all step_place step_thing (i ∷ j ∷ js) (x ∷ []) whole seen are follows = absurd are.1
follows_back all step_place step_thing (i ∷ j ∷ js) (x ∷ y ∷ ys) whole seen are follows =
    let next = place_ahead all step_place step_thing seen i x y are.0 follows.0 in
    (next.1 ∙ ap Some (one_place all next.0 j y whole next.2 are.1.0), follows_back all step_place step_thing (j ∷ js) (y ∷ ys) whole seen are.1 follows.1)

-- the members among things are those listed, where the members among places are the places listed
whole_over : {B : Type 0} (all : List B) (member_place : ℕ → Bool) (member_thing : B → Bool) (places : List ℕ) (things : List B) → IsAmong all member_thing → TestsAgree all member_place member_thing → AreAt all places things → ((i : ℕ) → IsTrue (member_place i) ↔ Contains places i) → (x : B) → IsTrue (member_thing x) ↔ Contains things x
whole_over {B} all member_place member_thing places things among agree are whole x = (
  λ is. let at = place_of_contained all x (among x is) in
      let found = thing_found all places things at.0 are ((whole at.0).0 (agree at.0 x at.1 ∙ is)) in
      let same : found.0 ≡ x = cc (found.2, at.1) in
      subst (λ (z : B). Contains things z) same found.1,
  λ inside. let found = place_found all places things x are inside in sym (agree found.0 x found.2) ∙ (whole found.0).1 found.1,
)

-- the members among places are those listed, where the members among distinct things are the things listed
whole_back : {B : Type 0} (all : List B) (member_place : ℕ → Bool) (member_thing : B → Bool) (places : List ℕ) (things : List B) → AreDistinct all → ((i : ℕ) → IsTrue (member_place i) → i < length all) → TestsAgree all member_place member_thing → AreAt all places things → ((x : B) → IsTrue (member_thing x) ↔ Contains things x) → (i : ℕ) → IsTrue (member_place i) ↔ Contains places i
whole_back {B} all member_place member_thing places things distinct within agree are whole i = (
  λ is. let at = thing_within all i (within i is) in
      let found = place_found all places things at.0 are ((whole at.0).0 (sym (agree i at.0 at.1) ∙ is)) in
      subst (λ (k : ℕ). Contains places k) (one_place all found.0 i at.0 distinct found.2 at.1) found.1,
  λ inside. let found = thing_found all places things i are inside in agree i found.0 found.2 ∙ (whole found.0).1 found.1,
)

-- the things at a chain of places are a chain
chain_over : {B : Type 0} (all : List B) (step_place : ℕ → Option ℕ) (step_thing : B → Option B) (member_place first_place last_place : ℕ → Bool) (member_thing first_thing last_thing : B → Bool) → AreChainsSeen all step_place step_thing member_place first_place last_place member_thing first_thing last_thing → HasChain step_place member_place first_place last_place → HasChain step_thing member_thing first_thing last_thing
chain_over all step_place step_thing member_place first_place last_place member_thing first_thing last_thing seen has =
    let chain = has.1 in
    let things = things_at all has.0 (λ i inside. seen.within i ((chain.whole i).1 inside)) in (
      things.0,
      record {
        distinct = distinct_over all has.0 things.0 seen.distinct things.1 chain.distinct;
        whole = whole_over all member_place member_thing has.0 things.0 seen.among seen.members things.1 chain.whole;
        begins = (begins_seen all first_place first_thing has.0 things.0 seen.firsts things.1).0 chain.begins;
        follows = follows_over all step_place step_thing has.0 things.0 seen.steps things.1 chain.follows;
        ends = (ends_seen all last_place last_thing has.0 things.0 seen.lasts things.1).0 chain.ends;
      },
    )

-- the places of a chain of things are a chain
chain_back : {B : Type 0} (all : List B) (step_place : ℕ → Option ℕ) (step_thing : B → Option B) (member_place first_place last_place : ℕ → Bool) (member_thing first_thing last_thing : B → Bool) → AreChainsSeen all step_place step_thing member_place first_place last_place member_thing first_thing last_thing → HasChain step_thing member_thing first_thing last_thing → HasChain step_place member_place first_place last_place
chain_back all step_place step_thing member_place first_place last_place member_thing first_thing last_thing seen has =
    let chain = has.1 in
    let places = places_of all has.0 (λ x inside. seen.among x ((chain.whole x).1 inside)) in (
      places.0,
      record {
        distinct = distinct_back all places.0 has.0 places.1 chain.distinct;
        whole = whole_back all member_place member_thing places.0 has.0 seen.distinct seen.within seen.members places.1 chain.whole;
        begins = (begins_seen all first_place first_thing places.0 has.0 seen.firsts places.1).1 chain.begins;
        follows = follows_back all step_place step_thing places.0 has.0 seen.distinct seen.steps places.1 chain.follows;
        ends = (ends_seen all last_place last_thing places.0 has.0 seen.lasts places.1).1 chain.ends;
      },
    )

-- members have a chain over places exactly where they have one over things
pub chain_seen : {B : Type 0} (all : List B) (step_place : ℕ → Option ℕ) (step_thing : B → Option B) (member_place first_place last_place : ℕ → Bool) (member_thing first_thing last_thing : B → Bool) → AreChainsSeen all step_place step_thing member_place first_place last_place member_thing first_thing last_thing → HasChain step_place member_place first_place last_place ↔ HasChain step_thing member_thing first_thing last_thing
chain_seen all step_place step_thing member_place first_place last_place member_thing first_thing last_thing seen = (
  λ has. chain_over all step_place step_thing member_place first_place last_place member_thing first_thing last_thing seen has,
  λ has. chain_back all step_place step_thing member_place first_place last_place member_thing first_thing last_thing seen has,
)
