-- The walk that is computed is the one that stands in the input, and there is no other; its pairs are few.
use Rattle.std.proofs.Common.{◌≡◌, refl, sym, ◌∙◌, ap₂, subst, ℕ, zero, suc, ◌+◌, ◌-◌, ◌<◌, ◌≤◌, Bool, true, false, List, [], ◌∷◌, ◌++◌, length, length-append, Option, Some, None, inl, inr, arith}
use Rattle.std.specs.Prelude.{◌≢◌, ◌⊎◌, ◌↔◌, ◌==◌, if◌then◌else◌}
use Rattle.std.proofs.lemmas.Bool.Decides.{nat_tests}
use Rattle.std.proofs.lemmas.Option.{same_Some}
use Rattle.dwg_objmap.specs.declared.pair.Pair.{Pair}
use Rattle.dwg_objmap.specs.Pairs.{ORIGIN, pair_after}
use Rattle.dwg_objmap.specs.MapLines.{body_at, word_at, HasPageWord, HasPage}
use Rattle.dwg_objmap.proofs.PagePlaces.{length_of_body}
use Rattle.dwg_objmap.specs.Walking.{SizeIsThere, page_holds_at, pairs_from, leading_pairs, size_of_page, with_next}
use Rattle.dwg_recover.specs.Walks.{IsWalk, Walk, pairs_at, pairs_of, walk_from, walk_of_size, walk_over, with_page}

-- no more pairs follow than the fuel
from_few : (fuel : ℕ) (seen : List Pair) (last : Pair) (bytes : List ℕ) → length (pairs_from fuel seen last bytes) ≤ length seen + fuel
unfolding pairs_from
from_few zero seen last bytes = omega arith
from_few (suc fuel) seen last bytes = of_parsed ((pair_after last).parse bytes) (λ pair rest. from_few fuel (seen ++ pair ∷ []) pair rest)
  where
    of_parsed : (parsed : Option (Pair × List ℕ)) → ((pair : Pair) (rest : List ℕ) → length (pairs_from fuel (seen ++ pair ∷ []) pair rest) ≤ length (seen ++ pair ∷ []) + fuel)
        → length (with_next seen (λ pair rest. pairs_from fuel (seen ++ pair ∷ []) pair rest) parsed) ≤ length seen + suc fuel
    of_parsed None others = omega arith
    of_parsed (Some (pair, rest)) others = omega (arith, others pair rest, length-append seen (pair ∷ []))

-- a page has no more pairs than bytes
page_few : (bytes : List ℕ) (place : ℕ) → HasPage bytes place → length (pairs_at bytes place) + 2 ≤ word_at bytes place
unfolding leading_pairs
page_few bytes place has = of_test (page_holds_at bytes place)
  where
    of_test : (holds : Bool) → length (if holds then leading_pairs (body_at bytes place) else []) + 2 ≤ word_at bytes place
    of_test true = omega (arith, from_few (length (body_at bytes place)) [] ORIGIN (body_at bytes place), length_of_body bytes place has)
    of_test false = omega (arith, has.0)

-- so a walk has no more than there are bytes from its begin on
walk_few : SizeIsThere → (fuel : ℕ) (bytes : List ℕ) (place : ℕ) → length (pairs_of bytes (walk_over fuel bytes place).pages) ≤ length bytes - place
unfolding walk_over
walk_few there zero bytes place = omega arith
walk_few there (suc fuel) bytes place = of_size (size_of_page bytes place) refl (λ next. walk_few there fuel bytes next)
  where
    others : ℕ → Walk
    others = λ next. walk_over fuel bytes next

    of_test : (size : ℕ) → HasPage bytes place → size ≡ word_at bytes place → ((next : ℕ) → length (pairs_of bytes (others next).pages) ≤ length bytes - next) → (last : Bool)
        → length (pairs_of bytes (if last then record { pages = place ∷ []; lost = None } else with_page place (others (place + size + 2))).pages) ≤ length bytes - place
    of_test size has is few true = omega (arith, page_few bytes place has, has.1, length-append (pairs_at bytes place) [])
    of_test size has is few false =
        omega (arith, is, page_few bytes place has, has.1, few (place + size + 2), length-append (pairs_at bytes place) (pairs_of bytes (others (place + size + 2)).pages))

    of_size : (size : Option ℕ) → size_of_page bytes place ≡ size → ((next : ℕ) → length (pairs_of bytes (others next).pages) ≤ length bytes - next)
        → length (pairs_of bytes (walk_of_size place others size).pages) ≤ length bytes - place
    of_size None is few = omega arith
    of_size (Some size) is few = let has = (there bytes place size).0 is in of_test size has.0 has.1 few (size == 2)

-- the pairs of a walk are no more than the input has bytes
pub pairs_are_few : SizeIsThere → (bytes : List ℕ) (place : ℕ) → length (pairs_of bytes (walk_from bytes place).pages) ≤ length bytes
unfolding walk_from
pairs_are_few there bytes place = omega (arith, walk_few there (suc (length bytes)) bytes place)

-- with fuel for the bytes from its begin on, the walk that is computed stands in the input
walk_is : SizeIsThere → (fuel : ℕ) (bytes : List ℕ) (place : ℕ) → 0 < fuel → length bytes < place + fuel → IsWalk bytes place (walk_over fuel bytes place).pages (walk_over fuel bytes place).lost
unfolding walk_over
walk_is there zero bytes place some enough = absurd (omega arith)
walk_is there (suc fuel) bytes place some enough = of_size (size_of_page bytes place) refl (λ next left more. walk_is there fuel bytes next left more)
  where
    others : ℕ → Walk
    others = λ next. walk_over fuel bytes next

    IsWalkOf : Walk → Type 0
    IsWalkOf = λ walk. IsWalk bytes place walk.pages walk.lost

    of_test : (size : ℕ) → size_of_page bytes place ≡ Some size → ((size ≢ 2) → IsWalk bytes (place + size + 2) (others (place + size + 2)).pages (others (place + size + 2)).lost) → (last : Bool) → (size == 2) ≡ last
        → IsWalkOf (if last then record { pages = place ∷ []; lost = None } else with_page place (others (place + size + 2)))
    of_test size is after true two = (refl, size, is, inl (grind (arith, nat_tests, two), refl, refl))
    of_test size is after false other = let differs : size ≢ 2 = λ same. grind (arith, nat_tests, other, same) in (refl, size, is, inr (differs, after differs))

    of_size : (size : Option ℕ) → size_of_page bytes place ≡ size → ((next : ℕ) → 0 < fuel → length bytes < next + fuel → IsWalk bytes next (others next).pages (others next).lost)
        → IsWalkOf (walk_of_size place others size)
    of_size None is after = (is, refl)
    of_size (Some size) is after =
        let has = (there bytes place size).0 is in
        of_test size is (λ differs. after (place + size + 2) (omega (arith, enough, has.0.0, has.0.1, has.1)) (omega (arith, enough, has.0.0, has.0.1, has.1))) (size == 2) refl

-- the walk from a place stands in the input
pub walk_stands : SizeIsThere → (bytes : List ℕ) (place : ℕ) → IsWalk bytes place (walk_from bytes place).pages (walk_from bytes place).lost
unfolding walk_from
walk_stands there bytes place = walk_is there (suc (length bytes)) bytes place (omega arith) (omega arith)

-- sizes of a page at one place are one
sizes_same : (bytes : List ℕ) (place size other : ℕ) → size_of_page bytes place ≡ Some size → size_of_page bytes place ≡ Some other → size ≡ other
sizes_same bytes place size other is was = same_Some _ _ (sym is ∙ was)

-- a page has a size or none
size_or_none : (bytes : List ℕ) (place size : ℕ) → size_of_page bytes place ≡ None → size_of_page bytes place ≡ Some size → ⊥
size_or_none bytes place size none is = let both : ◌≡◌ {A = Option ℕ} None (Some size) = sym none ∙ is in cc

-- from a place there is one walk
pub walk_once : (bytes : List ℕ) (place : ℕ) (pages others : List ℕ) (lost other : Option ℕ) → IsWalk bytes place pages lost → IsWalk bytes place others other → (pages ≡ others) × (lost ≡ other)
walk_once bytes place [] [] lost other is was = (refl, is.1 ∙ sym was.1)
walk_once bytes place [] (page ∷ others) lost other is was = absurd (size_or_none bytes place was.1 is.0 was.2)
walk_once bytes place (page ∷ pages) [] lost other is was = absurd (size_or_none bytes place is.1 was.0 is.2)
walk_once bytes place (page ∷ pages) (next ∷ others) lost other (from, size, sized, after) (start, long, also, more) =
    let same : size ≡ long = sizes_same bytes place size long sized also in of_ends same after more (λ one two. walk_once bytes (place + size + 2) pages others lost other one two)
  where
    of_ends : size ≡ long → ((size ≡ 2) × (pages ≡ []) × (lost ≡ None)) ⊎ ((size ≢ 2) × IsWalk bytes (place + size + 2) pages lost)
        → ((long ≡ 2) × (others ≡ []) × (other ≡ None)) ⊎ ((long ≢ 2) × IsWalk bytes (place + long + 2) others other)
        → (IsWalk bytes (place + size + 2) pages lost → IsWalk bytes (place + size + 2) others other → (pages ≡ others) × (lost ≡ other)) → (page ∷ pages ≡ next ∷ others) × (lost ≡ other)
    of_ends same (inl one) (inl two) after = (ap₂ (λ (p : ℕ) (ps : List ℕ). p ∷ ps) (from ∙ sym start) (one.1 ∙ sym two.1), one.2 ∙ sym two.2)
    of_ends same (inl one) (inr two) after = absurd (two.0 (sym same ∙ one.0))
    of_ends same (inr one) (inl two) after = absurd (one.0 (same ∙ two.0))
    of_ends same (inr one) (inr two) after =
        let others_same = after one.1 (subst (λ n. IsWalk bytes (place + n + 2) others other) (sym same) two.1) in
        (ap₂ (λ (p : ℕ) (ps : List ℕ). p ∷ ps) (from ∙ sym start) others_same.0, others_same.1)

-- a check word is right exactly where its test passes
pub right_reported : (bytes : List ℕ) (place : ℕ) → (page_holds_at bytes place ≡ true) ↔ HasPageWord bytes place
right_reported bytes place = ((λ passed. grind (arith, nat_tests, passed)), λ right. grind (arith, nat_tests, right))
