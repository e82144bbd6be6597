-- Things with keys: where steps and tests over keys say what they say over the things that have them, so do paths and chains.
use Rattle.std.proofs.Common.{◌≡◌, sym, refl, ap, ◌∙◌, subst, ⊎_elim}
use Rattle.std.specs.Prelude.{◌↔◌, ℕ, zero, suc, Bool, List, [], ◌∷◌, map, Option, Some, IsTrue, Contains}
use Rattle.dwg_graph.proofs.ListLemmas.{contains_map}
use Rattle.dwg_graph.specs.ObjectPaths.{IsChainOf}
use Rattle.dwg_chains.specs.Paths.{AreDistinct, Follows, Begins, Ends, IsChain, HasPath, HasRank, HasChain}
use Rattle.dwg_chains.proofs.MemberLemmas.{contains_none, contains_first, contains_after, contains_cases}
use Rattle.dwg_chains.proofs.RankLemmas.{path_of_rank, rank_of_path}

-- each of these things has a key of its own, and steps over keys lead where those over things do
pub record AreKeyed {A K : Type 0} (all : List A) (key : A → K) (step_key : K → Option K) (step_thing : A → Option A) : Type 0 where
  pub one : (x y : A) → Contains all x → Contains all y → key x ≡ key y → x ≡ y
  pub forth : (x : A) (k : K) → Contains all x → step_key (key x) ≡ Some k → (y : A) × Contains all y × (key y ≡ k) × (step_thing x ≡ Some y)
  pub back : (x y : A) → Contains all x → step_thing x ≡ Some y → Contains all y × (step_key (key x) ≡ Some (key y))

-- a test of keys says what that of the things says
abbrev pub KeysAgree : {A K : Type 0} → List A → (A → K) → (K → Bool) → (A → Bool) → Type 0
KeysAgree {A} {K} all key test_key test_thing = (x : A) → Contains all x → test_key (key x) ≡ test_thing x

-- what passes a test is the key of one of these things
abbrev pub AreKeys : {A K : Type 0} → List A → (A → K) → (K → Bool) → Type 0
AreKeys {A} {K} all key test = (k : K) → IsTrue (test k) → (x : A) × Contains all x × (key x ≡ k)

-- the rank of a key is one of the thing that has it
rank_over : {A K : Type 0} (all : List A) (key : A → K) (step_key : K → Option K) (step_thing : A → Option A) (goal_key : K → Bool) (goal_thing : A → Bool) → AreKeyed all key step_key step_thing → KeysAgree all key goal_key goal_thing → (x : A) (rank : ℕ) → Contains all x → HasRank step_key goal_key (key x) rank → HasRank step_thing goal_thing x rank
unfolding HasRank
rank_over all key step_key step_thing goal_key goal_thing keyed agree x zero inside has = sym (agree x inside) ∙ has
rank_over {A} {K} all key step_key step_thing goal_key goal_thing keyed agree x (suc rank) inside has =
    let next = keyed.forth x has.1 inside has.2 in (
      sym (agree x inside) ∙ has.0,
      next.0,
      next.3,
      rank_over all key step_key step_thing goal_key goal_thing keyed agree next.0 rank next.1 (subst (λ (k : K). HasRank step_key goal_key k rank) (sym next.2) has.3),
    )

-- the rank of a thing is one of its key
rank_back : {A K : Type 0} (all : List A) (key : A → K) (step_key : K → Option K) (step_thing : A → Option A) (goal_key : K → Bool) (goal_thing : A → Bool) → AreKeyed all key step_key step_thing → KeysAgree all key goal_key goal_thing → (x : A) (rank : ℕ) → Contains all x → HasRank step_thing goal_thing x rank → HasRank step_key goal_key (key x) rank
unfolding HasRank
rank_back all key step_key step_thing goal_key goal_thing keyed agree x zero inside has = agree x inside ∙ has
rank_back all key step_key step_thing goal_key goal_thing keyed agree x (suc rank) inside has =
    let next = keyed.back x has.1 inside has.2 in
    (agree x inside ∙ has.0, key has.1, next.1, rank_back all key step_key step_thing goal_key goal_thing keyed agree has.1 rank next.0 has.3)

-- a path leads from a key exactly where one leads from the thing that has it
pub path_keyed : {A K : Type 0} (all : List A) (key : A → K) (step_key : K → Option K) (step_thing : A → Option A) (goal_key : K → Bool) (goal_thing : A → Bool) → AreKeyed all key step_key step_thing → KeysAgree all key goal_key goal_thing → (x : A) → Contains all x → HasPath step_key goal_key (key x) ↔ HasPath step_thing goal_thing x
path_keyed all key step_key step_thing goal_key goal_thing keyed agree x inside = (
  λ has. let ranked = rank_of_path step_key goal_key (key x) has in
      path_of_rank step_thing goal_thing x ranked.0 (rank_over all key step_key step_thing goal_key goal_thing keyed agree x ranked.0 inside ranked.1),
  λ has. let ranked = rank_of_path step_thing goal_thing x has in
      path_of_rank step_key goal_key (key x) ranked.0 (rank_back all key step_key step_thing goal_key goal_thing keyed agree x ranked.0 inside ranked.1),
)

-- what is among the keys is that of something that the list contains
thing_inside : {A K : Type 0} (key : A → K) (xs : List A) (k : K) → Contains (map key xs) k → (x : A) × Contains xs x × (key x ≡ k)
thing_inside key [] k inside = absurd (contains_none k inside)
thing_inside key (y ∷ ys) k inside = ⊎_elim
    (λ same. (y, contains_first y ys, same))
    (λ after. let further = thing_inside key ys k after in (further.0, contains_after y ys further.0 further.1, further.2))
    (contains_cases (key y) (map key ys) k inside)

-- things of distinct keys are distinct
distinct_over : {A K : Type 0} (key : A → K) (xs : List A) → AreDistinct (map key xs) → AreDistinct xs
unfolding AreDistinct
distinct_over key [] distinct = tt
distinct_over key (x ∷ xs) distinct = (λ again. distinct.0 (contains_map key xs x again), distinct_over key xs distinct.1)

-- the things of a list are all among others
abbrev pub AreWithin : {A : Type 0} → List A → List A → Type 0
AreWithin {A} all xs = (x : A) → Contains xs x → Contains all x

-- so are those after its first
rest_within : {A : Type 0} (all : List A) (x : A) (xs : List A) → AreWithin all (x ∷ xs) → AreWithin all xs
rest_within all x xs within y inside = within y (contains_after x xs y inside)

-- distinct things have distinct keys
distinct_back : {A K : Type 0} (all : List A) (key : A → K) → ((x y : A) → Contains all x → Contains all y → key x ≡ key y → x ≡ y) → (xs : List A) → AreWithin all xs → AreDistinct xs → AreDistinct (map key xs)
unfolding AreDistinct
distinct_back all key one [] within distinct = tt
distinct_back {A} all key one (x ∷ xs) within distinct = (
  λ again. let other = thing_inside key xs (key x) again in
      let same : other.0 ≡ x = one other.0 x (within other.0 (contains_after x xs other.0 other.1)) (within x (contains_first x xs)) other.2 in
      distinct.0 (subst (λ (y : A). Contains xs y) same other.1),
  distinct_back all key one xs (rest_within all x xs within) distinct.1,
)

-- the first thing passes where its key does
begins_keyed : {A K : Type 0} (key : A → K) (test : K → Bool) (xs : List A) → Begins test (map key xs) ↔ Begins (λ x. test (key x)) xs
begins_keyed key test [] = (λ h. h, λ h. h)
begins_keyed key test (x ∷ xs) = (λ h. h, λ h. h)

-- and so does the last
ends_keyed : {A K : Type 0} (key : A → K) (test : K → Bool) (xs : List A) → Ends test (map key xs) ↔ Ends (λ x. test (key x)) xs
unfolding Ends
ends_keyed key test [] = (λ h. h, λ h. h)
ends_keyed key test (x ∷ []) = (λ h. h, λ h. h)
ends_keyed key test (x ∷ y ∷ rest) = ends_keyed key test (y ∷ rest)

-- things lead to each other as their keys do
follows_over : {A K : Type 0} (all : List A) (key : A → K) (step_key : K → Option K) (step_thing : A → Option A) → AreKeyed all key step_key step_thing → (xs : List A) → AreWithin all xs → Follows step_key (map key xs) → Follows step_thing xs
unfolding Follows
follows_over all key step_key step_thing keyed [] within follows = tt
follows_over all key step_key step_thing keyed (x ∷ []) within follows = tt
follows_over all key step_key step_thing keyed (x ∷ y ∷ rest) within follows =
    let next = keyed.forth x (key y) (within x (contains_first x (y ∷ rest))) follows.0 in
    let same : next.0 ≡ y = keyed.one next.0 y next.1 (within y (contains_after x (y ∷ rest) y (contains_first y rest))) next.2 in
    (next.3 ∙ ap Some same, follows_over all key step_key step_thing keyed (y ∷ rest) (rest_within all x (y ∷ rest) within) follows.1)

-- keys lead to each other as the things do
follows_back : {A K : Type 0} (all : List A) (key : A → K) (step_key : K → Option K) (step_thing : A → Option A) → AreKeyed all key step_key step_thing → (xs : List A) → AreWithin all xs → Follows step_thing xs → Follows step_key (map key xs)
unfolding Follows
follows_back all key step_key step_thing keyed [] within follows = tt
follows_back all key step_key step_thing keyed (x ∷ []) within follows = tt
follows_back all key step_key step_thing keyed (x ∷ y ∷ rest) within follows = (
  (keyed.back x y (within x (contains_first x (y ∷ rest))) follows.0).1,
  follows_back all key step_key step_thing keyed (y ∷ rest) (rest_within all x (y ∷ rest) within) follows.1,
)

-- the things that have these keys
things_of : {A K : Type 0} (all : List A) (key : A → K) (ks : List K) → ((k : K) → Contains ks k → (x : A) × Contains all x × (key x ≡ k)) → (xs : List A) × (map key xs ≡ ks) × AreWithin all xs
things_of all key [] each = ([], refl, λ x inside. absurd (contains_none x inside))
things_of {A} {K} all key (k ∷ ks) each =
    let here = each k (contains_first k ks) in
    let further = things_of all key ks (λ j inside. each j (contains_after k ks j inside)) in (
      here.0 ∷ further.0,
      ap (λ (j : K). j ∷ map key further.0) here.2 ∙ ap (λ (js : List K). k ∷ js) further.1,
      λ x inside. ⊎_elim (λ same. subst (λ (y : A). Contains all y) same here.1) (λ after. further.2 x after) (contains_cases here.0 further.0 x inside),
    )

-- the members of these things are those listed, where their keys are the keys listed
whole_over : {A K : Type 0} (all : List A) (key : A → K) (member_key : K → Bool) (member_thing : A → Bool) → ((x y : A) → Contains all x → Contains all y → key x ≡ key y → x ≡ y) → KeysAgree all key member_key member_thing → (xs : List A) → AreWithin all xs → ((k : K) → IsTrue (member_key k) ↔ Contains (map key xs) k) → (x : A) → (Contains all x × IsTrue (member_thing x)) ↔ Contains xs x
whole_over {A} all key member_key member_thing one agree xs within whole x = (
  λ is. let listed = thing_inside key xs (key x) ((whole (key x)).0 (agree x is.0 ∙ is.1)) in
      subst (λ (y : A). Contains xs y) (one listed.0 x (within listed.0 listed.1) is.0 listed.2) listed.1,
  λ inside. (within x inside, sym (agree x (within x inside)) ∙ (whole (key x)).1 (contains_map key xs x inside)),
)

-- the keys of the members are those listed, where the members are the things listed
whole_back : {A K : Type 0} (all : List A) (key : A → K) (member_key : K → Bool) (member_thing : A → Bool) → AreKeys all key member_key → KeysAgree all key member_key member_thing → (xs : List A) → ((x : A) → (Contains all x × IsTrue (member_thing x)) ↔ Contains xs x) → (k : K) → IsTrue (member_key k) ↔ Contains (map key xs) k
whole_back {A} {K} all key member_key member_thing keys agree xs whole k = (
  λ is. let member = keys k is in
      let passes : IsTrue (member_thing member.0) = sym (agree member.0 member.1) ∙ (ap member_key member.2 ∙ is) in
      subst (λ (j : K). Contains (map key xs) j) member.2 (contains_map key xs member.0 ((whole member.0).0 (member.1, passes))),
  λ inside. let listed = thing_inside key xs k inside in
      let member = (whole listed.0).1 listed.1 in
      subst (λ (j : K). IsTrue (member_key j)) listed.2 (agree listed.0 member.0 ∙ member.1),
)

-- members have a chain over keys exactly where they have one over things
pub chain_keyed : {A K : Type 0} (all : List A) (key : A → K) (step_key : K → Option K) (step_thing : A → Option A) (member_key : K → Bool) (member_thing : A → Bool) (first last : K → Bool) → AreKeyed all key step_key step_thing → AreKeys all key member_key → KeysAgree all key member_key member_thing
    → HasChain step_key member_key first last ↔ ((chain : List A) × IsChainOf all step_thing member_thing (λ x. first (key x)) (λ x. last (key x)) chain)
chain_keyed {A} {K} all key step_key step_thing member_key member_thing first last keyed keys agree = (
  λ has. let things = things_of all key has.0 (λ k inside. keys k ((has.1.whole k).1 inside)) in
      let chain : IsChain step_key member_key first last (map key things.0) = subst (λ (ks : List K). IsChain step_key member_key first last ks) (sym things.1) has.1 in (
        things.0,
        record {
          distinct = distinct_over key things.0 chain.distinct;
          whole = whole_over all key member_key member_thing keyed.one agree things.0 things.2 chain.whole;
          begins = (begins_keyed key first things.0).0 chain.begins;
          follows = follows_over all key step_key step_thing keyed things.0 things.2 chain.follows;
          ends = (ends_keyed key last things.0).0 chain.ends;
        },
      ),
  λ has. let chain = has.1 in
      let within : AreWithin all has.0 = λ x inside. ((chain.whole x).1 inside).0 in (
        map key has.0,
        record {
          distinct = distinct_back all key keyed.one has.0 within chain.distinct;
          whole = whole_back all key member_key member_thing keys agree has.0 chain.whole;
          begins = (begins_keyed key first has.0).1 chain.begins;
          follows = follows_back all key step_key step_thing keyed has.0 within chain.follows;
          ends = (ends_keyed key last has.0).1 chain.ends;
        },
      ),
)
