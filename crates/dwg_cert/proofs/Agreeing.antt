-- Two accepted certificates of the same objects agree on ranks, and on the places of members.
use Rattle.std.proofs.Common.{◌≡◌, sym, refl, ap, ◌∙◌, subst, arith}
use Rattle.std.proofs.lemmas.Bool.{false_from_ne_true}
use Rattle.std.proofs.lemmas.Bool.Decides.{Decides-eqb}
use Rattle.std.proofs.lemmas.Option.{same_Some, slice_get_within}
use Rattle.std.specs.Prelude.{◌==◌, ◌||◌, ◌&&◌, ◌<◌, ◌≤◌, ℕ, zero, suc, Bool, true, false, List, [], ◌∷◌, length, map, Option, Some, None, IsTrue, Contains}
use Rattle.std.specs.List.{AllByRecursion, slice_get}
use Rattle.std.specs.Option.{option_map_or}
use Rattle.dwg_base.proofs.OneOfAll.{one_of_all}
use Rattle.dwg_cert.specs.Accepts.{rank_at, place_at, members_of, AreInPlace, AreInPlaceBetween, Accepts}
use Rattle.dwg_cert.specs.Certified.{AcceptedRanksAgree, AcceptedPlacesAgree}
use Rattle.dwg_cert.specs.declared.entry.Entry.{Entry}
use Rattle.dwg_cert.proofs.ChainPlaces.{IsChainOf, chain_of_block}
use Rattle.dwg_cert.proofs.Entries.{object_of_rank, members_passed}
use Rattle.dwg_cert.proofs.SoundOfAccepted.{ranks_fall_to_roots, places_rise_along, accepted_is_sound}
use Rattle.dwg_graph.specs.Graph.{object_at, is_raw, is_header, is_root, owner_step, next_step, root_at, member_at, EndHandles, ends_of}
use Rattle.dwg_graph.specs.Owners.{spaces, owner_of}
use Rattle.dwg_graph.specs.Places.{Ascend, handles_of}
use Rattle.dwg_graph.proofs.ListLemmas.{contains_map, none_of_empty}
use Rattle.dwg_graph.proofs.Tests.{object_found}
use Rattle.dwg_object.specs.Objects.{ObjectValue, TypedValue, PlainValue, RawValue, handle_of}
use Rattle.dwg_object.specs.Written.{IsWhole}
use Rattle.dwg_chains.specs.Numbered.{FallToGoals, RiseAlong, PassesThese}
use Rattle.dwg_chains.specs.Paths.{Begins, IsChain, HasRank}
use Rattle.dwg_chains.proofs.MemberLemmas.{distinct_at_most}
use Rattle.dwg_chains.proofs.Numbering.{follows_at, stands_at, stands_there, contains_there}
use Rattle.dwg_chains.proofs.PlaceLaws.{place_of_contained}
use Rattle.dwg_chains.proofs.RankWalks.{one_rank}

-- numbers that fall to goals, where none above 0 is a goal's, are the ranks
rank_of_fall : {A : Type 0} (step : A → Option A) (goal : A → Bool) (number : A → Option ℕ) → FallToGoals step goal number
    → ((x : A) (n : ℕ) → number x ≡ Some (suc n) → goal x ≡ false) → (n : ℕ) (x : A) → number x ≡ Some n → HasRank step goal x n
unfolding HasRank
rank_of_fall step goal number fall above zero x is = fall.ends x is
rank_of_fall step goal number fall above (suc n) x is =
    let next = fall.falls x n is in (above x n is, next.0, next.1, rank_of_fall step goal number fall above n next.0 next.2)

-- no whole object has the null handle
whole_positive : (x : ObjectValue) → IsWhole x → 0 < handle_of x
whole_positive (TypedValue number handle common body) whole = whole.0.0
whole_positive (PlainValue number handle common rest refs) whole = whole.0
whole_positive (RawValue number handle bytes) whole = whole

-- so none of whole objects has it
one_positive : (objects : List ObjectValue) (x : ObjectValue) → AllByRecursion IsWhole objects → Contains objects x → 0 < handle_of x
one_positive objects x all inside =
    let place = place_of_contained objects x inside in whole_positive x (one_of_all IsWhole objects place.0 x all place.1)

-- what isn't Raw and has an owner that isn't null is no root
owned_by_some : (raw top : Bool) (owner : ℕ) → raw ≡ false → 0 < owner → (raw || (top && (owner == 0))) ≡ false
owned_by_some true top owner form some = absurd (cc form)
owned_by_some false true owner form some = false_from_ne_true (owner == 0) (λ is. omega (arith, some, (Decides-eqb owner 0).0 is))
owned_by_some false false owner form some = refl

owned_is_no_root : (objects : List ObjectValue) (x : ObjectValue) → is_raw x ≡ false → 0 < owner_of (spaces objects) x → is_root (spaces objects) x ≡ false
unfolding is_root
owned_is_no_root objects x form some = owned_by_some (is_raw x) _ (owner_of (spaces objects) x) form some

-- the object of a handle, where that isn't a root
no_root_at : (objects : List ObjectValue) (handle : ℕ) (x : ObjectValue) → object_at objects handle ≡ Some x → is_root (spaces objects) x ≡ false → root_at objects (spaces objects) handle ≡ false
unfolding root_at
no_root_at objects handle x found other = ap (λ (one : Option ObjectValue). option_map_or (is_root (spaces objects)) one false) found ∙ other

-- an object of a rank above 0 is no root
above_is_no_root : (objects : List ObjectValue) (cert : List Entry) (handle n : ℕ) → Ascend (handles_of objects) → AllByRecursion IsWhole objects → Accepts objects cert → rank_at cert handle ≡ Some (suc n)
    → root_at objects (spaces objects) handle ≡ false
above_is_no_root objects cert handle n ascend whole is ranked =
    let x = object_of_rank objects cert handle (suc n) is.handles ranked in
    let owned = is.owned x.0 n x.1 (subst (λ (h : ℕ). rank_at cert h ≡ Some (suc n)) (sym x.2) ranked) in
    let some : 0 < owner_of (spaces objects) x.0 = omega (arith, owned.has, one_positive objects owned.owner whole owned.stands) in
    no_root_at objects handle x.0 ((object_found objects handle x.0 ascend).1 (x.1, x.2)) (owned_is_no_root objects x.0 owned.form some)

-- the ranks of an accepted certificate are the counts of steps up to roots
rank_of_accepted : (objects : List ObjectValue) (cert : List Entry) (handle rank : ℕ) → Ascend (handles_of objects) → AllByRecursion IsWhole objects → Accepts objects cert → rank_at cert handle ≡ Some rank
    → HasRank (owner_step objects (spaces objects)) (root_at objects (spaces objects)) handle rank
rank_of_accepted objects cert handle rank ascend whole is ranked =
    rank_of_fall (owner_step objects (spaces objects)) (root_at objects (spaces objects)) (rank_at cert) (ranks_fall_to_roots objects cert ascend is)
    (λ h n above. above_is_no_root objects cert h n ascend whole is above) rank handle ranked

-- so they agree
pub ranks_agree : AcceptedRanksAgree
ranks_agree objects cert other handle rank also ascend whole is too ranked given =
    one_rank (owner_step objects (spaces objects)) (root_at objects (spaces objects)) handle rank also
    (rank_of_accepted objects cert handle rank ascend whole is ranked) (rank_of_accepted objects other handle also ascend whole too given)

-- the first of a chain that begins with the only first of its members has number 0
first_numbered : {A : Type 0} (first : A → Bool) (number : A → Option ℕ) (things : List A) (one x : A) → ((y z : A) → IsTrue (first y) → IsTrue (first z) → y ≡ z)
    → IsTrue (first one) → number one ≡ Some 0 → Begins first things → slice_get things 0 ≡ Some x → number x ≡ Some 0
first_numbered first number [] one x only is numbered begins here = absurd begins
first_numbered {A} first number (z ∷ rest) one x only is numbered begins here =
    subst (λ (y : A). number y ≡ Some 0) (only one z is begins ∙ same_Some z x here) numbered

-- numbers that rise along members are the places in their chain
number_at_place : {A : Type 0} (members : List A) (step : A → Option A) (member first last : A → Bool) (number : A → Option ℕ) (chain : List A) → PassesThese member members
    → ((y z : A) → IsTrue (first y) → IsTrue (first z) → y ≡ z) → RiseAlong members step first last number → IsChain step member first last chain
    → (k : ℕ) (x : A) → slice_get chain k ≡ Some x → number x ≡ Some k
number_at_place members step member first last number chain passes only rise is zero x here =
    first_numbered first number chain rise.begins.0 x only rise.begins.2 rise.begins.3 is.begins here
number_at_place {A} members step member first last number chain passes only rise is (suc k) y here =
    let within = slice_get_within chain (suc k) y here in
    let before = stands_there chain k (omega (arith, within)) in
    let into : (x : A) → Contains chain x → Contains members x = λ x along. (passes x).0 ((is.whole x).1 along) in
    let few : length chain ≤ length members = distinct_at_most chain members is.distinct into in
    let numbered = number_at_place members step member first last number chain passes only rise is k before.0 before.1 in
    let next = rise.rises before.0 k (into before.0 (contains_there chain k before.0 before.1)) numbered (omega (arith, within, few)) in
    let same = same_Some next.0 y (sym next.1 ∙ follows_at step chain is.follows k before.0 y before.1 here) in
    subst (λ (x : A). number x ≡ Some (suc k)) same next.3

-- where a member of a block stands in its chain, and that it has that place by each certificate by which the members are in place
record StandsAt (objects : List ObjectValue) (block x : ObjectValue) (ends : EndHandles) : Type 0 where
  place : ℕ
  is : (cert : List Entry) → AreInPlace objects cert block ends → place_at cert (handle_of x) ≡ Some place

member_stands : (objects : List ObjectValue) (block x : ObjectValue) (ends : EndHandles) (chain : List ℕ) → Ascend (handles_of objects) → IsChainOf objects block ends chain → Contains (members_of objects block) x
    → StandsAt objects block x ends
member_stands objects block x ends chain ascend is inside =
    let passes = members_passed objects block ascend in
    let at = stands_at chain (handle_of x) ((is.whole (handle_of x)).0 ((passes (handle_of x)).1 (contains_map handle_of (members_of objects block) x inside))) in
    record {
      place = at.0;
      is = λ cert are.
          number_at_place (map handle_of (members_of objects block)) (next_step objects) (member_at objects (spaces objects) block) (λ handle. handle == ends.first) (λ handle. handle == ends.last) (place_at cert) chain
          passes (λ y z one other. (Decides-eqb y ends.first).0 one ∙ sym ((Decides-eqb z ends.first).0 other)) (places_rise_along objects cert block ends ascend are) is at.0 (handle_of x) at.2;
    }

-- so two certificates by which the members of a block are in place agree
placed_agree : (objects : List ObjectValue) (cert other : List Entry) (block x : ObjectValue) (place also : ℕ) (known : Option EndHandles) → Ascend (handles_of objects) → Accepts objects cert → ends_of block ≡ known
    → Contains objects block → IsTrue (is_header block) → Contains (members_of objects block) x → AreInPlaceBetween objects cert block known → AreInPlaceBetween objects other block known
    → place_at cert (handle_of x) ≡ Some place → place_at other (handle_of x) ≡ Some also → place ≡ also
placed_agree objects cert other block x place also None ascend is known stands header inside never too placed given = absurd never
placed_agree objects cert other block x place also (Some ends) ascend is known stands header inside are too placed given =
    let chain = chain_of_block objects block ends (accepted_is_sound objects cert ascend is) stands header known in
    let at = member_stands objects block x ends chain.0 ascend chain.1 inside in
    same_Some place at.place (sym placed ∙ at.is cert are) ∙ same_Some at.place also (sym (at.is other too) ∙ given)

pub places_agree : AcceptedPlacesAgree
places_agree objects cert other block x place also ascend is too stands header inside placed given =
    let some : members_of objects block ≡ [] → ⊥ = λ none. none_of_empty (members_of objects block) x none inside in
    placed_agree objects cert other block x place also (ends_of block) ascend is refl stands header inside
    (is.chain block stands header some) (too.chain block stands header some) placed given
