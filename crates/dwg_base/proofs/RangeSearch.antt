-- The first number that passes a test, of numbers in turn.
use Rattle.std.proofs.Common.{◌≡◌, refl, sym, ◌∙◌, ap, subst, ℕ, zero, suc, ◌+◌, ◌-◌, ◌<◌, ◌≤◌, Bool, true, false, Option, Some, None, inl, inr, arith}
use Rattle.std.specs.Prelude.{cond, find, map}
use Rattle.std.specs.List.{AllByRecursion, range_with_len}
use Rattle.std.proofs.lemmas.Bool.{cases_eq, cond-true, cond-false}
use Rattle.std.proofs.lemmas.Option.{same_Some}

-- where the first number passes, it is found
pub found_here : (test : ℕ → Bool) (from count : ℕ) → from < count → test from ≡ true → find test (range_with_len from (count - from)) ≡ Some from
found_here test from count inside passes =
    let one : count - from ≡ suc (count - (from + 1)) = omega arith in
    ap (λ n. find test (range_with_len from n)) one ∙ cond-true (test from) (Some from) _ passes

-- where it fails, the search goes on after it
pub found_after : (test : ℕ → Bool) (from count : ℕ) → from < count → test from ≡ false → find test (range_with_len (from + 1) (count - (from + 1))) ≡ find test (range_with_len from (count - from))
found_after test from count inside fails =
    let one : count - from ≡ suc (count - (from + 1)) = omega arith in
    sym (ap (λ n. find test (range_with_len from n)) one ∙ cond-false (test from) (Some from) _ fails)

-- where no number is left, none is found
pub found_nowhere : (test : ℕ → Bool) (from count : ℕ) → count ≤ from → find test (range_with_len from (count - from)) ≡ None
found_nowhere test from count past =
    let none : count - from ≡ 0 = omega arith in
    ap (λ n. find test (range_with_len from n)) none

-- of numbers in turn this is the first that passes a test
pub record IsFirst (test : ℕ → Bool) (from count number : ℕ) : Type 0 where
  pub least : from ≤ number
  pub inside : number < from + count
  pub passes : test number ≡ true
  pub before : (k : ℕ) → from ≤ k → k < number → test k ≡ false

-- the number before, or one after it
before_or_after : (test : ℕ → Bool) (from count number : ℕ) (here : Bool) (after : Option ℕ) → test from ≡ here → cond here (Some from) after ≡ Some number
    → (after ≡ Some number → IsFirst test (from + 1) count number) → IsFirst test from (suc count) number
before_or_after test from count number true after passes found others =
    let same : from ≡ number = same_Some from number found in
    record {
      least = omega arith;
      inside = omega arith;
      passes = ap test (sym same) ∙ passes;
      before = λ k least below. absurd (omega arith);
    }
before_or_after test from count number false after fails found others =
    let is = others found in
    record {
      least = omega (arith, is.least);
      inside = omega (arith, is.inside);
      passes = is.passes;
      before = λ k least below. elim (cases_eq k from) [ inl same ↦ ap test same ∙ fails | inr other ↦ is.before k (omega arith) below ];
    }

-- what is found is the first that passes
pub first_from_found : (test : ℕ → Bool) (from count number : ℕ) → find test (range_with_len from count) ≡ Some number → IsFirst test from count number
first_from_found test from zero number found = absurd cc
first_from_found test from (suc count) number found =
    before_or_after test from count number (test from) (find test (range_with_len (from + 1) count)) refl found (first_from_found test (from + 1) count number)

-- the first that passes is found
pub found_from_first : (test : ℕ → Bool) (from count number : ℕ) → IsFirst test from count number → find test (range_with_len from count) ≡ Some number
found_from_first test from zero number is = absurd (omega (arith, is.least, is.inside))
found_from_first test from (suc count) number is =
    let least : from ≤ number = is.least in
    let inside : number < from + suc count = is.inside in
    elim (cases_eq number from) [
      | inl same ↦ cond-true (test from) (Some from) _ (ap test (sym same) ∙ is.passes) ∙ ap (λ (n : ℕ). Some n) (sym same)
      | inr other ↦ cond-false (test from) (Some from) _ (is.before from (omega arith) (omega arith))
          ∙ found_from_first test (from + 1) count number
          (record { least = omega arith; inside = omega arith; passes = is.passes; before = λ k over below. is.before k (omega arith) below })
    ]

-- where none is found, each fails
pub each_fails : (test : ℕ → Bool) (from count : ℕ) → find test (range_with_len from count) ≡ None → (k : ℕ) → from ≤ k → k < from + count → test k ≡ false
each_fails test from zero none k least below = absurd (omega arith)
each_fails test from (suc count) none k least below =
    let parts = none_before (test from) (find test (range_with_len (from + 1) count)) none in
    elim (cases_eq k from) [ inl same ↦ ap test same ∙ parts.0 | inr other ↦ each_fails test (from + 1) count parts.1 k (omega arith) (omega arith) ]
  where
    none_before : (here : Bool) (after : Option ℕ) → cond here (Some from) after ≡ None → (here ≡ false) × (after ≡ None)
    none_before true after none = absurd cc
    none_before false after none = (refl, none)

-- and where each fails, none is found
pub none_found : (test : ℕ → Bool) (from count : ℕ) → ((k : ℕ) → from ≤ k → k < from + count → test k ≡ false) → find test (range_with_len from count) ≡ None
none_found test from zero fails = refl
none_found test from (suc count) fails =
    cond-false (test from) (Some from) _ (fails from (omega arith) (omega arith))
    ∙ none_found test (from + 1) count (λ k least below. fails k (omega arith) (omega arith))

-- what holds of each number in turn holds of each value that it has
pub all_in_turn : {V : Type 0} (Holds : V → Type 0) (value : ℕ → V) (from count : ℕ) → ((k : ℕ) → from ≤ k → k < from + count → Holds (value k))
    → AllByRecursion Holds (map value (range_with_len from count))
all_in_turn Holds value from zero holds = tt
all_in_turn Holds value from (suc count) holds =
    (holds from (omega arith) (omega arith), all_in_turn Holds value (from + 1) count (λ k least below. holds k (omega arith) (omega arith)))

-- and what holds of each value that numbers in turn have holds of that of each number
pub each_in_turn : {V : Type 0} (Holds : V → Type 0) (value : ℕ → V) (from count : ℕ) → AllByRecursion Holds (map value (range_with_len from count))
    → (k : ℕ) → from ≤ k → k < from + count → Holds (value k)
each_in_turn Holds value from zero all k least below = absurd (omega arith)
each_in_turn Holds value from (suc count) all k least below =
    elim (cases_eq k from) [ inl same ↦ subst (λ n. Holds (value n)) (sym same) all.0 | inr other ↦ each_in_turn Holds value (from + 1) count all.1 k (omega arith) (omega arith) ]
