-- Where the members of lists come from and stay: of joined, mapped, ordered and filtered lists.
use Rattle.std.proofs.Common.{◌≡◌, refl, sym, ◌∙◌, ap, subst, ℕ, zero, suc, ◌+◌, Bool, true, false, List, [], ◌∷◌, ◌++◌, length, length-append, map, append_assoc, inl, inr, arith}
use Rattle.std.specs.Prelude.{◌⊎◌, ◌↔◌, Contains, cond}
use Rattle.std.specs.List.{AllByRecursion, filter}
use Rattle.std.specs.List.Sorted.{IsPermutation}
use Rattle.std.proofs.lemmas.List.Elements.{Contains-append_right}
use Rattle.std.proofs.lemmas.List.Sorted.{Contains-permutation}
use Rattle.dwg_recover.specs.ListMembers.{IsAt, IsOneOf, IsSplit}

-- a member, by the cases of the list, is an element by its place, as `Contains` of the library says it
one_is_element : {A : Type 0} (one : A) (all : List A) → IsOneOf one all → Contains all one
one_is_element one [] is = absurd is
one_is_element one (first ∷ all) (inl same) = (0, omega arith, sym same)
one_is_element one (first ∷ all) (inr after) = Contains-append_right (first ∷ []) all one (one_is_element one all after)

element_is_one : {A : Type 0} (one : A) (all : List A) → Contains all one → IsOneOf one all
element_is_one one [] (place, less, is) = absurd (omega (arith, less))
element_is_one one (first ∷ all) (zero, less, is) = inl (sym is)
element_is_one one (first ∷ all) (suc place, less, is) = inr (element_is_one one all (place, omega (arith, less), is))

pub one_or_element : {A : Type 0} (one : A) (all : List A) → IsOneOf one all ↔ Contains all one
one_or_element one all = (one_is_element one all, element_is_one one all)

-- of two lists that are joined, it is one of the first or of the second
pub of_joined : {A : Type 0} (one : A) (prefix back : List A) → IsOneOf one (prefix ++ back) → IsOneOf one prefix ⊎ IsOneOf one back
of_joined one [] back is = inr is
of_joined one (first ∷ prefix) back (inl same) = inl (inl same)
of_joined one (first ∷ prefix) back (inr after) = of_rest (of_joined one prefix back after)
  where
    of_rest : IsOneOf one prefix ⊎ IsOneOf one back → IsOneOf one (first ∷ prefix) ⊎ IsOneOf one back
    of_rest (inl lies_before) = inl (inr lies_before)
    of_rest (inr in_back) = inr in_back

pub in_first : {A : Type 0} (one : A) (prefix back : List A) → IsOneOf one prefix → IsOneOf one (prefix ++ back)
in_first one [] back is = absurd is
in_first one (first ∷ prefix) back (inl same) = inl same
in_first one (first ∷ prefix) back (inr after) = inr (in_first one prefix back after)

pub in_second : {A : Type 0} (one : A) (prefix back : List A) → IsOneOf one back → IsOneOf one (prefix ++ back)
in_second one [] back is = is
in_second one (first ∷ prefix) back is = inr (in_second one prefix back is)

-- what holds of all holds of one
pub one_of_all : {A : Type 0} (Holds : A → Type 0) (all : List A) (one : A) → AllByRecursion Holds all → IsOneOf one all → Holds one
one_of_all Holds [] one holds is = absurd is
one_of_all Holds (first ∷ all) one holds (inl same) = subst Holds (sym same) holds.0
one_of_all Holds (first ∷ all) one holds (inr after) = one_of_all Holds all one holds.1 after

-- what holds of each holds of all
pub all_of_each : {A : Type 0} (Holds : A → Type 0) (all : List A) → ((one : A) → IsOneOf one all → Holds one) → AllByRecursion Holds all
all_of_each Holds [] each = tt
all_of_each Holds (first ∷ all) each = (each first (inl refl), all_of_each Holds all (λ one after. each one (inr after)))

-- what holds of one and of those after it
pub cases_of : {A : Type 0} (Holds : A → Type 0) (first : A) (others : List A) → ((one : A) → IsOneOf one (first ∷ others) → Holds one)
    → Holds first × ((one : A) → IsOneOf one others → Holds one)
cases_of Holds first others all = (all first (inl refl), λ one is. all one (inr is))

-- a list is in two at each of its members
pub split_at : {A : Type 0} (one : A) (all : List A) → IsOneOf one all → IsSplit one all
split_at one [] is = absurd is
split_at one (first ∷ all) (inl same) = record { before = []; after = all; whole = ap (λ item. item ∷ all) (sym same) }
split_at one (first ∷ all) (inr after) =
    let rest = split_at one all after in record { before = first ∷ rest.before; after = rest.after; whole = ap (λ others. first ∷ others) rest.whole }

-- the first of a list
pub at_first : {A : Type 0} (first : A) (all : List A) → IsAt 0 first (first ∷ all)
at_first first all = record { split = record { before = []; after = all; whole = refl }; far = refl }

-- one more before those at a place
pub at_next : {A : Type 0} (place : ℕ) (one first : A) (all : List A) → IsAt place one all → IsAt (place + 1) one (first ∷ all)
at_next place one first all at = record {
  split = record { before = first ∷ at.split.before; after = at.split.after; whole = ap (λ others. first ∷ others) at.split.whole };
  far = omega (arith, at.far);
}

-- the first, or one of those after it
pub at_cases : {A : Type 0} (place : ℕ) (one first : A) (all : List A) → IsAt place one (first ∷ all) → ((place ≡ 0) × (one ≡ first)) ⊎ ((next : ℕ) × (place ≡ next + 1) × IsAt next one all)
at_cases {A} place one first all at = of_before at.split.before at.split.whole at.far
  where
    of_before : (before : List A) → first ∷ all ≡ before ++ one ∷ at.split.after → length before ≡ place → ((place ≡ 0) × (one ≡ first)) ⊎ ((next : ℕ) × (place ≡ next + 1) × IsAt next one all)
    of_before [] whole far = let same : first ≡ one = cc in inl (sym far, sym same)
    of_before (item ∷ before) whole far =
        let rest : all ≡ before ++ one ∷ at.split.after = cc in
        inr (length before, omega (arith, far), record { split = record { before = before; after = at.split.after; whole = rest }; far = refl })

-- no list without members has one at a place
pub none_at : {A : Type 0} (place : ℕ) (one : A) → IsAt place one [] → ⊥
none_at {A} place one at = of_before at.split.before at.split.whole
  where
    of_before : (before : List A) → [] ≡ before ++ one ∷ at.split.after → ⊥
    of_before [] whole = cc
    of_before (first ∷ before) whole = cc

-- what stands at a place is a member
pub one_at : {A : Type 0} (place : ℕ) (one : A) (all : List A) → IsAt place one all → IsOneOf one all
one_at place one all at = subst (IsOneOf one) (sym at.split.whole) (in_second one at.split.before (one ∷ at.split.after) (inl refl))

-- and stands at that place of the list with others after it, or at one further on with others before it
pub at_prefix : {A : Type 0} (place : ℕ) (one : A) (prefix back : List A) → IsAt place one prefix → IsAt place one (prefix ++ back)
at_prefix place one prefix back at = record {
  split = record {
    before = at.split.before;
    after = at.split.after ++ back;
    whole = ap (λ all. all ++ back) at.split.whole ∙ append_assoc at.split.before (one ∷ at.split.after) back;
  };
  far = at.far;
}

pub at_back : {A : Type 0} (place : ℕ) (one : A) (prefix back : List A) → IsAt place one back → IsAt (length prefix + place) one (prefix ++ back)
at_back place one prefix back at = record {
  split = record {
    before = prefix ++ at.split.before;
    after = at.split.after;
    whole = ap (λ all. prefix ++ all) at.split.whole ∙ sym (append_assoc prefix at.split.before (one ∷ at.split.after));
  };
  far = length-append prefix at.split.before ∙ ap (λ n. length prefix + n) at.far;
}

-- two that stand at one place are one
pub same_at : {A : Type 0} (place : ℕ) (one other : A) (all : List A) → IsAt place one all → IsAt place other all → one ≡ other
same_at place one other [] at there = absurd (none_at place one at)
same_at {A} place one other (first ∷ all) at there =
    of_cases (at_cases place one first all at) (at_cases place other first all there) (λ next here also. same_at next one other all here also)
  where
    of_cases : ((place ≡ 0) × (one ≡ first)) ⊎ ((next : ℕ) × (place ≡ next + 1) × IsAt next one all) → ((place ≡ 0) × (other ≡ first)) ⊎ ((next : ℕ) × (place ≡ next + 1) × IsAt next other all)
        → ((next : ℕ) → IsAt next one all → IsAt next other all → one ≡ other) → one ≡ other
    of_cases (inl (zero_here, same)) (inl (zero_there, also)) after = same ∙ sym also
    of_cases (inl (zero_here, same)) (inr (next, is, there)) after = absurd (omega (arith, zero_here, is))
    of_cases (inr (next, is, here)) (inl (zero_there, also)) after = absurd (omega (arith, zero_there, is))
    of_cases (inr (next, is, here)) (inr (later, was, there)) after =
        let both : later ≡ next = omega (arith, is, was) in
        after next here (subst (λ n. IsAt n other all) both there)

-- one is mapped to one
pub one_mapped : {A B : Type 0} (f : A → B) (one : A) (all : List A) → IsOneOf one all → IsOneOf (f one) (map f all)
one_mapped f one [] is = absurd is
one_mapped f one (first ∷ all) (inl same) = inl (ap f same)
one_mapped f one (first ∷ all) (inr after) = inr (one_mapped f one all after)

-- which one a member of a mapped list comes from
pub record IsMappedFrom {A B : Type 0} (f : A → B) (image : B) (all : List A) : Type 0 where
  pub one : A
  pub is : IsOneOf one all
  pub same : image ≡ f one

pub mapped_from : {A B : Type 0} (f : A → B) (image : B) (all : List A) → IsOneOf image (map f all) → IsMappedFrom f image all
mapped_from f image [] is = absurd is
mapped_from f image (first ∷ all) (inl same) = record { one = first; is = inl refl; same = same }
mapped_from f image (first ∷ all) (inr after) = let rest = mapped_from f image all after in record { one = rest.one; is = inr rest.is; same = rest.same }

-- the members are the same in any order
pub one_permuted : {A : Type 0} (one : A) (all others : List A) → IsPermutation all others → IsOneOf one all → IsOneOf one others
one_permuted one all others same is = (one_or_element one others).1 (Contains-permutation all others one same ((one_or_element one all).0 is))

-- a member that passes a test stays
pub one_stays : {A : Type 0} (test : A → Bool) (one : A) (all : List A) → IsOneOf one all → test one ≡ true → IsOneOf one (filter test all)
one_stays test one [] is passed = absurd is
one_stays {A} test one (first ∷ all) is passed = of_test (test first) refl is (λ after. one_stays test one all after passed)
  where
    failed_first : test first ≡ false → one ≡ first → ⊥
    failed_first failed same = let both : true ≡ false = sym passed ∙ ap test same ∙ failed in absurd cc

    of_test : (passes : Bool) → test first ≡ passes → IsOneOf one (first ∷ all) → (IsOneOf one all → IsOneOf one (filter test all)) → IsOneOf one (cond passes (first ∷ filter test all) (filter test all))
    of_test true here (inl same) others = inl same
    of_test true here (inr after) others = inr (others after)
    of_test false here (inl same) others = absurd (failed_first here same)
    of_test false here (inr after) others = others after

-- and one that stays is a member that passes
pub filtered_one : {A : Type 0} (test : A → Bool) (all : List A) (one : A) → IsOneOf one (filter test all) → IsOneOf one all × (test one ≡ true)
filtered_one test [] one is = absurd is
filtered_one {A} test (first ∷ all) one is = of_test (test first) refl is (filtered_one test all one)
  where
    of_test : (passes : Bool) → test first ≡ passes → IsOneOf one (cond passes (first ∷ filter test all) (filter test all))
        → (IsOneOf one (filter test all) → IsOneOf one all × (test one ≡ true)) → IsOneOf one (first ∷ all) × (test one ≡ true)
    of_test true passed (inl same) others = (inl same, ap test same ∙ passed)
    of_test true passed (inr after) others = (inr (others after).0, (others after).1)
    of_test false failed has others = (inr (others has).0, (others has).1)
