-- Laws of chains among finitely many things: what is found from the first to the last is a chain exactly where there is one.
use Rattle.std.proofs.Common.{◌≡◌, sym, refl, ap, ◌∙◌, subst, ⊎_elim, arith}
use Rattle.std.proofs.lemmas.Bool.{cases_Bool, and_parts, and_from}
use Rattle.std.specs.Prelude.{◌≤◌, ◌↔◌, Bool, true, false, List, [], ◌∷◌, length, Option, Some, None, find, filter, option_and_then, IsTrue, Contains}
use Rattle.std.specs.List.{list_all, list_any}
use Rattle.std.specs.Option.{option_map_or}
use Rattle.dwg_chains.specs.Paths.{AreDistinct, Follows, Ends, IsPath, IsChain, HasChain}
use Rattle.dwg_chains.specs.Ways.{way, are_members, has_chain}
use Rattle.dwg_chains.proofs.MemberLemmas.{contains_first, contains_after, distinct_at_most}
use Rattle.dwg_chains.proofs.TestLemmas.{each_of_all, all_of_each, one_of_any, any_of_one, kept_of_passing, passing_of_kept, passing_of_found, found_of_passing}
use Rattle.dwg_chains.proofs.RankLemmas.{IsStraight, path_of_straight}
use Rattle.dwg_chains.proofs.WayLemmas.{straight_is_found, found_is_straight, option_then_found}
use Rattle.dwg_chains.specs.ChainTests.{AreChainTests, IsAmong, PassesOnce, Distinguishes}

-- a list that ends with what passes contains what passes
end_passes : {A : Type 0} (test : A → Bool) (x : A) (rest : List A) → Ends test (x ∷ rest) → (y : A) × Contains (x ∷ rest) y × IsTrue (test y)
unfolding Ends
end_passes test x [] ends = (x, contains_first x [], ends)
end_passes test x (y ∷ rest) ends = let further = end_passes test y rest ends in (further.0, contains_after x (y ∷ rest) further.0 further.1, further.2)

-- distinct things, each leading to the next, of which only the last passes, are a straight way to it
pub straight_of_chain : {A : Type 0} (step : A → Option A) (last : A → Bool) (x : A) (rest : List A) → AreDistinct (x ∷ rest) → Follows step (x ∷ rest) → Ends last (x ∷ rest) → PassesOnce (x ∷ rest) last → IsStraight step last x rest
unfolding AreDistinct Follows Ends
straight_of_chain step last x [] distinct follows ends once = ends
straight_of_chain {A} step last x (y ∷ rest) distinct follows ends once =
    let end = end_passes last y rest ends in
    let further = straight_of_chain step last y rest distinct.1 follows.1 ends (λ z w inside also. once z w (contains_after x (y ∷ rest) z inside) (contains_after x (y ∷ rest) w also)) in (
      ⊎_elim
          (λ (here : last x ≡ true).
          let same : x ≡ end.0 = once x end.0 (contains_first x (y ∷ rest)) (contains_after x (y ∷ rest) end.0 end.1) here end.2 in
          absurd (distinct.0 (subst (λ (z : A). Contains (y ∷ rest) z) (sym same) end.1)))
          (λ (away : last x ≡ false). away)
          (cases_Bool (last x)),
      follows.0,
      further,
    )

-- the members are exactly those of a list, if the test for that says so
members_reported : {A : Type 0} (same : A → A → Bool) (all : List A) (member : A → Bool) → Distinguishes all same → IsAmong all member → (listed : List A) → are_members same all member listed ≡ true → (x : A) → IsTrue (member x) ↔ Contains listed x
members_reported {A} same all member apart among listed are x =
    let parts = and_parts (list_all member listed) (list_all (λ y. list_any (same y) listed) (filter member all)) are in (
      λ is. let found = one_of_any (same x) listed (each_of_all (λ y. list_any (same y) listed) (filter member all) x parts.1 (kept_of_passing member all x (among x is) is)) in
          let one : x ≡ found.0 = (apart x found.0 (among x is) (among found.0 (each_of_all member listed found.0 parts.0 found.1))).0 found.2 in
          subst (λ (z : A). Contains listed z) (sym one) found.1,
      λ inside. each_of_all member listed x parts.0 inside,
    )

-- the test for that says so, if the members are exactly those of the list
members_report : {A : Type 0} (same : A → A → Bool) (all : List A) (member : A → Bool) → Distinguishes all same → (listed : List A) → ((x : A) → IsTrue (member x) ↔ Contains listed x) → are_members same all member listed ≡ true
members_report same all member apart listed whole =
    and_from (list_all member listed) (list_all (λ y. list_any (same y) listed) (filter member all))
    (all_of_each member listed (λ y inside. (whole y).1 inside))
    (all_of_each (λ y. list_any (same y) listed) (filter member all) (λ y kept.
    let passing = passing_of_kept member all y kept in
    any_of_one (same y) listed y ((whole y).0 passing.1) ((apart y y passing.0 passing.0).1 refl)))

-- what passes, if it is there, is there
map_or_found : {A : Type 0} (test : A → Bool) (found : Option A) → option_map_or test found false ≡ true → (x : A) × (found ≡ Some x) × (test x ≡ true)
map_or_found test None is = absurd (cc is)
map_or_found test (Some x) is = (x, refl, is)

-- what is found from the first to the last is a chain, if the test says so
chain_of_found : {A : Type 0} (same : A → A → Bool) (all : List A) (step : A → Option A) (member first last : A → Bool) → AreChainTests same all member first last → IsTrue (has_chain same all step member first last) → HasChain step member first last
unfolding has_chain
chain_of_found {A} same all step member first last tests is =
    let reported = map_or_found (are_members same all member) (option_and_then (way step last (length all)) (find first all)) is in
    let begun = option_then_found (way step last (length all)) (find first all) reported.0 reported.1 in
    let straight = found_is_straight step last (length all) begun.0 reported.0 begun.2 in
    let path : IsPath step last begun.0 (begun.0 ∷ straight.0) = path_of_straight step last begun.0 straight.0 straight.2 in
    let are : are_members same all member (begun.0 ∷ straight.0) ≡ true = subst (λ (those : List A). are_members same all member those ≡ true) straight.1 reported.2 in (
      begun.0 ∷ straight.0,
      record {
        distinct = path.distinct;
        whole = members_reported same all member tests.apart tests.among (begun.0 ∷ straight.0) are;
        begins = (passing_of_found first all begun.0 begun.1).1;
        follows = path.follows;
        ends = path.ends;
      },
    )

-- the test says so, if the first is found, the way from it is found, and it has the members
has_chain_by : {A : Type 0} (same : A → A → Bool) (all : List A) (step : A → Option A) (member first last : A → Bool) (x : A) (listed : List A) → find first all ≡ Some x → way step last (length all) x ≡ Some listed → are_members same all member listed ≡ true → IsTrue (has_chain same all step member first last)
unfolding has_chain
has_chain_by same all step member first last x listed begun found are = rw (begun, found) are

-- a chain is found, if there is one
found_of_chain : {A : Type 0} (same : A → A → Bool) (all : List A) (step : A → Option A) (member first last : A → Bool) → AreChainTests same all member first last → (chain : List A) → IsChain step member first last chain → IsTrue (has_chain same all step member first last)
found_of_chain same all step member first last tests [] chain = absurd chain.begins
found_of_chain {A} same all step member first last tests (x ∷ rest) chain =
    let inside : (y : A) → Contains (x ∷ rest) y → Contains all y = λ y along. tests.among y ((chain.whole y).1 along) in
    let first_inside : Contains all x = inside x (contains_first x rest) in
    let begun = found_of_passing first all x first_inside chain.begins in
    let passing = passing_of_found first all begun.0 begun.1 in
    let same_first : begun.0 ≡ x = tests.one_first begun.0 x passing.0 first_inside passing.1 chain.begins in
    let straight = straight_of_chain step last x rest chain.distinct chain.follows chain.ends (λ y z along also. tests.one_last y z (inside y along) (inside z also)) in
    let short : length (x ∷ rest) ≤ length all = distinct_at_most (x ∷ rest) all chain.distinct inside in
    has_chain_by same all step member first last x (x ∷ rest)
    (begun.1 ∙ ap Some same_first)
    (straight_is_found step last (length all) x rest straight (omega (arith, short)))
    (members_report same all member tests.apart (x ∷ rest) chain.whole)

-- the test finds a chain exactly where there is one
pub chain_decided : {A : Type 0} (same : A → A → Bool) (all : List A) (step : A → Option A) (member first last : A → Bool) → AreChainTests same all member first last → IsTrue (has_chain same all step member first last) ↔ HasChain step member first last
chain_decided same all step member first last tests = (
  λ is. chain_of_found same all step member first last tests is,
  λ has. found_of_chain same all step member first last tests has.0 has.1,
)
