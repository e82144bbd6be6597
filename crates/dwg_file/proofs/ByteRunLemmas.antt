-- Runs by their last bytes: the first that ends after a place decides, one in a row is found by its place there, and one that shares no byte goes to its place.
use Rattle.std.proofs.Common.{◌≡◌, refl, sym, ◌∙◌, ap, subst, ℕ, zero, suc, ◌+◌, ◌-◌, ◌^◌, ◌<◌, ◌≤◌, Bool, true, false, List, [], ◌∷◌, ◌++◌, length, Option, None, Some, arith, inl, inr, cond, slice_index_or}
use Rattle.std.specs.Prelude.{◌⊎◌, ◌&&◌, ◌||◌, nat_le, nat_lt}
use Rattle.std.specs.List.{AllByRecursion}
use Rattle.std.specs.List.Sorted.{IsPartitionedBy, IsPartitionPoint}
use Rattle.std.specs.Ordering.{nat_cmp, match_ordering}
use Rattle.std.specs.declared.cmp.Ordering.{Ordering}
use Rattle.std.specs.declared.cmp.Ordering.TheVariants.{Less, Equal, Greater}
use Rattle.std.specs.declared.ops.Bound.TheVariants.{Included, Unbounded}
use Rattle.std.specs.BTreeMap.{insert_entry}
use Rattle.std.specs.BTreeMap.Range.{range_contains, entries_between}
use Rattle.std.proofs.lemmas.Bool.Decides.{nat_tests}
use Rattle.std.proofs.lemmas.List.Folds.{list_any-append}
use Rattle.dwg_file.specs.ByteRanges.{Run, meets, shares, AreRuns, IsRow, IsAfter, first_after, begins_before}

-- runs after a place share no byte with what ends before it
after_place : (from end place : ℕ) (runs : List Run) → end ≤ place → AllByRecursion (λ (after : Run). place < after.1) runs → shares runs from end ≡ false
after_place from end place [] before after = refl
after_place from end place (run ∷ runs) before after =
    let out : meets from end run ≡ false = grind (arith, nat_tests, after.0) in
    ap (λ test. test || shares runs from end) out ∙ after_place from end place runs before after.1

-- one run more
decided_by : (inside hits others : Bool) (end : ℕ) (run : Run) (found : Option Run) → (inside ≡ true → hits ≡ false → others ≡ false) → nat_lt run.1 end ≡ hits → begins_before end found ≡ others
    → begins_before end (cond inside (Some run) found) ≡ ((inside && hits) || others)
decided_by true true others end run found last hits after = hits
decided_by true false others end run found last hits after = hits ∙ sym (last refl refl)
decided_by false hit others end run found last hits after = after

-- of the runs that end after a place, the first decides
pub decides : (from end : ℕ) (runs : List Run) → AreRuns runs → begins_before end (first_after from runs) ≡ shares runs from end
decides from end [] are = refl
decides from end (run ∷ runs) are =
    decided_by (nat_le from run.0) (nat_lt run.1 end) (shares runs from end) end run (first_after from runs)
    (λ inside out. let before : end ≤ run.0 = grind (arith, nat_tests, out, are.0) in after_place from end run.0 runs before are.1)
    refl (decides from end runs are.2)

-- the first of a list, where it has one
abbrev first_of : List Run → Option Run
first_of [] = None
first_of (run ∷ runs) = Some run

-- the test of a range from a place on
in_range : (from key : ℕ) → range_contains nat_cmp (Included from) Unbounded key ≡ nat_le from key
in_range from key = grind (arith, nat_tests)

-- the first of a range from a place on
first_between : (place : ℕ) (runs : List Run) → first_of (entries_between nat_cmp (Included place) Unbounded runs) ≡ first_after place runs
first_between place [] = refl
first_between place (run ∷ runs) =
    ap (λ (inside : Bool). first_of (cond inside (run ∷ entries_between nat_cmp (Included place) Unbounded runs) (entries_between nat_cmp (Included place) Unbounded runs))) (in_range place run.0)
    ∙ by_test (nat_le place run.0) (entries_between nat_cmp (Included place) Unbounded runs) ∙ ap (λ (found : Option Run). cond (nat_le place run.0) (Some run) found) (first_between place runs)
  where
    by_test : (inside : Bool) (kept : List Run) → first_of (cond inside (run ∷ kept) kept) ≡ cond inside (Some run) (first_of kept)
    by_test true kept = refl
    by_test false kept = refl

pub first_of_range : (place : ℕ) (runs after : List Run) (first : Run) → entries_between nat_cmp (Included place) Unbounded runs ≡ first ∷ after → Some first ≡ first_after place runs
first_of_range place runs after first is = sym (ap first_of is) ∙ first_between place runs

pub none_of_range : (place : ℕ) (runs : List Run) → entries_between nat_cmp (Included place) Unbounded runs ≡ [] → None ≡ first_after place runs
none_of_range place runs is = sym (ap first_of is) ∙ first_between place runs

-- runs after a place end after it too
ends_after : (place : ℕ) (runs : List Run) (at : ℕ) (d : Run) → AreRuns runs → AllByRecursion (λ (after : Run). place < after.1) runs → at < length runs → place ≤ (slice_index_or runs at d).0
ends_after place [] at d are after within = absurd (omega (arith, within))
ends_after place (run ∷ runs) zero d are after within = omega (arith, after.0, are.0)
ends_after place (run ∷ runs) (suc at) d are after within = ends_after place runs at d are.2 after.1 (omega (arith, within))

-- the last bytes of runs rise
last_rise : (runs : List Run) (i j : ℕ) (d : Run) → AreRuns runs → i ≤ j → j < length runs → (slice_index_or runs i d).0 ≤ (slice_index_or runs j d).0
last_rise [] i j d are before within = absurd (omega (arith, within))
last_rise (run ∷ runs) zero zero d are before within = omega arith
last_rise (run ∷ runs) zero (suc j) d are before within = ends_after run.0 runs j d are.2 are.1 (omega (arith, within))
last_rise (run ∷ runs) (suc i) zero d are before within = absurd (omega (arith, before))
last_rise (run ∷ runs) (suc i) (suc j) d are before within = last_rise runs i j d are.2 (omega (arith, before)) (omega (arith, within))

-- so a search among them may halve
pub parted_runs : (place : ℕ) (runs : List Run) → AreRuns runs → IsPartitionedBy (λ (run : Run). nat_lt run.0 place) runs
parted_runs place runs are i j d before within passes =
    let rise : (slice_index_or runs i d).0 ≤ (slice_index_or runs j d).0 = last_rise runs i j d are before within in
    grind (arith, nat_tests, rise, passes)

-- after runs that end before a place, the first that does not
first_at : (place : ℕ) (runs : List Run) (at : ℕ) (d : Run) → ((k : ℕ) (e : Run) → k < at → nat_lt (slice_index_or runs k e).0 place ≡ true) → at < length runs
    → nat_lt (slice_index_or runs at d).0 place ≡ false → Some (slice_index_or runs at d) ≡ first_after place runs
first_at place [] at d before within after = absurd (omega (arith, within))
first_at place (run ∷ runs) zero d before within after = let reaches : nat_le place run.0 ≡ true = grind (arith, nat_tests, after) in ap (λ (inside : Bool). cond inside (Some run) (first_after place runs)) (sym reaches)
first_at place (run ∷ runs) (suc at) d before within after =
    let misses : nat_le place run.0 ≡ false = grind (arith, nat_tests, before 0 run (omega arith)) in
    first_at place runs at d (λ k e more. before (suc k) e (omega (arith, more))) (omega (arith, within)) after ∙ ap (λ (inside : Bool). cond inside (Some run) (first_after place runs)) (sym misses)

-- where all end before it, there is none
none_at : (place : ℕ) (runs : List Run) → ((k : ℕ) (e : Run) → k < length runs → nat_lt (slice_index_or runs k e).0 place ≡ true) → None ≡ first_after place runs
none_at place [] before = refl
none_at place (run ∷ runs) before =
    let misses : nat_le place run.0 ≡ false = grind (arith, nat_tests, before 0 run (omega arith)) in
    none_at place runs (λ k e more. before (suc k) e (omega (arith, more))) ∙ ap (λ (inside : Bool). cond inside (Some run) (first_after place runs)) (sym misses)

-- what a search that halves finds
pub first_of_row : (place : ℕ) (runs : List Run) (at : ℕ) (d : Run) → IsPartitionPoint (λ (run : Run). nat_lt run.0 place ≡ true) (λ (run : Run). nat_lt run.0 place ≡ false) runs at → at < length runs
    → Some (slice_index_or runs at d) ≡ first_after place runs
first_of_row place runs at d point within = first_at place runs at d (λ k e before. point.0 k e (omega arith) before) within (point.1 at d (omega arith) within)

pub none_of_row : (place : ℕ) (runs : List Run) (at : ℕ) → IsPartitionPoint (λ (run : Run). nat_lt run.0 place ≡ true) (λ (run : Run). nat_lt run.0 place ≡ false) runs at → length runs ≤ at
    → None ≡ first_after place runs
none_of_row place runs at point all = none_at place runs (λ k e within. point.0 k e (omega arith) (omega (arith, all, within)))

-- the order of tests
turned : (one other : Bool) → (one || other) ≡ (other || one)
turned true true = refl
turned true false = refl
turned false true = refl
turned false false = refl

-- what is known of the first run that ends after a place
record IsFirst (place : ℕ) (runs : List Run) (first : Run) : Type 0 where
  pub reaches : place ≤ first.0
  pub fits : first.0 < 2 ^ 64 - 1
  pub taken : (other : ℕ) → first.1 ≤ other → other ≤ first.0 → shares runs other (other + 1) ≡ true

-- so it is of it
first_is : (place : ℕ) (runs : List Run) (first : Run) → AreRuns runs → Some first ≡ first_after place runs → IsFirst place runs first
first_is place [] first are is = absurd cc
first_is place (run ∷ runs) first are is = of_test (nat_le place run.0) refl is (λ further. first_is place runs first are.2 further)
  where
    here : nat_le place run.0 ≡ true → run ≡ first → IsFirst place (run ∷ runs) first
    here reaches same = subst (IsFirst place (run ∷ runs)) same (record {
      reaches = grind (arith, nat_tests, reaches);
      fits = are.3;
      taken = λ other begun within. let met : meets other (other + 1) run ≡ true = grind (arith, nat_tests) in ap (λ test. test || shares runs other (other + 1)) met;
    })

    there : IsFirst place runs first → IsFirst place (run ∷ runs) first
    there is = record {
      reaches = is.reaches;
      fits = is.fits;
      taken = λ other begun within. ap (λ test. meets other (other + 1) run || test) (is.taken other begun within) ∙ turned (meets other (other + 1) run) true;
    }

    of_test : (inside : Bool) → nat_le place run.0 ≡ inside → Some first ≡ cond inside (Some run) (first_after place runs) → (Some first ≡ first_after place runs → IsFirst place runs first) → IsFirst place (run ∷ runs) first
    of_test true reaches same later = here reaches cc
    of_test false misses same later = there (later same)

pub first_fits : (place : ℕ) (runs : List Run) (first : Run) → AreRuns runs → Some first ≡ first_after place runs → first.0 < 2 ^ 64 - 1
first_fits place runs first are is = (first_is place runs first are is).fits

-- the place after the first run that ends after another, where that lies in it
pub after_begun : (place : ℕ) (runs : List Run) (first : Run) → AreRuns runs → Some first ≡ first_after place runs → first.1 ≤ place → IsAfter runs place (first.0 + 1)
after_begun place runs first are is begun =
    let found = first_is place runs first are is in
    record {
      after = omega (arith, found.reaches);
      taken = λ other from within. found.taken other (omega arith) (omega arith);
      free = λ same. absurd (omega (arith, found.reaches, same));
    }

-- a byte that no run shares stays where it is
stays : (place : ℕ) (runs : List Run) → shares runs place (place + 1) ≡ false → IsAfter runs place place
stays place runs free = record { after = omega arith; taken = λ other from within. absurd (omega (arith, from, within)); free = λ same. free }

-- as where that run begins after it too
pub after_unbegun : (place : ℕ) (runs : List Run) (first : Run) → AreRuns runs → Some first ≡ first_after place runs → place < first.1 → IsAfter runs place place
after_unbegun place runs first are is before =
    let out : nat_lt first.1 (place + 1) ≡ false = grind (arith, nat_tests) in
    stays place runs (sym (decides place (place + 1) runs are) ∙ sym (ap (begins_before (place + 1)) is) ∙ out)

-- and where there is none
pub after_none : (place : ℕ) (runs : List Run) → AreRuns runs → None ≡ first_after place runs → IsAfter runs place place
after_none place runs are is = stays place runs (sym (decides place (place + 1) runs are) ∙ sym (ap (begins_before (place + 1)) is))

-- a row shares no byte with what begins after it
pub row_ended : (last from end : ℕ) (runs : List Run) → IsRow last runs → last ≤ from → shares runs from end ≡ false
row_ended last from end [] row after = refl
row_ended last from end (run ∷ runs) row after =
    let out : meets from end run ≡ false = grind (arith, nat_tests, row.before.0, after) in
    ap (λ test. test || shares runs from end) out ∙ row_ended last from end runs (record { are = row.are.2; before = row.before.1 }) after

pub row_stays : (last place : ℕ) (runs : List Run) → IsRow last runs → last ≤ place → IsAfter runs place place
row_stays last place runs row after = stays place runs (row_ended last place (place + 1) runs row after)

-- and with such a run at its end it is a row
pub row_with : (last from end : ℕ) (runs : List Run) → IsRow last runs → last ≤ from → from < end → end < 2 ^ 64 → IsRow end (runs ++ (end - 1, from) ∷ [])
row_with last from end [] row after some fits = record { are = (omega arith, tt, tt, omega arith); before = (omega arith, tt) }
row_with last from end (run ∷ runs) row after some fits =
    let more = row_with last from end runs (record { are = row.are.2; before = row.before.1 }) after some fits in
    record {
      are = (row.are.0, all_joined run.0 runs row.are.1 (omega (arith, row.before.0, after)), more.are, row.are.3);
      before = (omega (arith, row.before.0, after, some), more.before);
    }
  where
    all_joined : (place : ℕ) (ones : List Run) → AllByRecursion (λ (later : Run). place < later.1) ones → place < from → AllByRecursion (λ (later : Run). place < later.1) (ones ++ (end - 1, from) ∷ [])
    all_joined place [] all before = (before, tt)
    all_joined place (one ∷ ones) all before = (all.0, all_joined place ones all.1 before)

-- how two numbers compare
compared : (x y : ℕ) → ((x < y) × (nat_cmp x y ≡ Less)) ⊎ (((x ≡ y) × (nat_cmp x y ≡ Equal)) ⊎ ((y < x) × (nat_cmp x y ≡ Greater)))
compared x y = grind (arith, nat_tests)

-- where a run goes among others, by the first of them
inserted : (last from : ℕ) (run : Run) (runs : List Run) (order : Ordering) → nat_cmp last run.0 ≡ order
    → insert_entry nat_cmp (run ∷ runs) last from ≡ match_ordering order ((last, from) ∷ run ∷ runs) ((run.0, from) ∷ runs) (run ∷ insert_entry nat_cmp runs last from)
inserted last from run runs order is = ap (λ (o : Ordering). match_ordering o ((last, from) ∷ run ∷ runs) ((run.0, from) ∷ runs) (run ∷ insert_entry nat_cmp runs last from)) is

-- what lies after a place lies after an earlier one
further : (place less : ℕ) (runs : List Run) → less ≤ place → AllByRecursion (λ (after : Run). place < after.1) runs → AllByRecursion (λ (after : Run). less < after.1) runs
further place less [] before all = tt
further place less (run ∷ runs) before all = (omega (arith, all.0), further place less runs before all.1)

-- a run after a place goes among others after it
all_inserted : (place last from : ℕ) (runs : List Run) → place < from → AllByRecursion (λ (after : Run). place < after.1) runs → AllByRecursion (λ (after : Run). place < after.1) (insert_entry nat_cmp runs last from)
all_inserted place last from [] before all = (before, tt)
all_inserted place last from (run ∷ runs) before all =
    elim (compared last run.0) [
      | inl less ↦ subst (AllByRecursion (λ (after : Run). place < after.1)) (sym (inserted last from run runs Less less.1)) (before, all)
      | inr (inl same) ↦ subst (AllByRecursion (λ (after : Run). place < after.1)) (sym (inserted last from run runs Equal same.1)) (before, all.1)
      | inr (inr greater) ↦ subst (AllByRecursion (λ (after : Run). place < after.1)) (sym (inserted last from run runs Greater greater.1)) (all.0, all_inserted place last from runs before all.1)
    ]

-- the bytes from a place to another lie before a run or after it, where they share none with it
parted : (from end : ℕ) (run : Run) → meets from end run ≡ false → (run.0 < from) ⊎ (end ≤ run.1)
parted from end run apart = grind (arith, nat_tests)

-- neither of two tests holds
neither : (one other : Bool) → (one || other) ≡ false → (one ≡ false) × (other ≡ false)
neither true other is = absurd (cc)
neither false other is = (refl, is)

regrouped : (one other third : Bool) → (one || (other || third)) ≡ ((one || other) || third)
regrouped true other third = refl
regrouped false other third = refl

-- with one more that shares no byte with them, they are runs
pub runs_with : (last from end : ℕ) (runs : List Run) → AreRuns runs → end ≡ last + 1 → end < 2 ^ 64 → from < end → shares runs from end ≡ false → AreRuns (insert_entry nat_cmp runs last from)
runs_with last from end [] are is fits some apart = (omega arith, tt, tt, omega arith)
runs_with last from end (run ∷ runs) are is fits some apart =
    let tests = neither (meets from end run) (shares runs from end) apart in
    let sides = parted from end run tests.0 in
    elim (compared last run.0) [
      | inl less ↦ let before : last < run.1 = omega (arith, less.0, sides) in
          subst AreRuns (sym (inserted last from run runs Less less.1)) (omega arith, (before, further run.0 last runs (omega (arith, less.0)) are.1), are, omega arith)
      | inr (inl same) ↦ absurd (omega (arith, same.0, sides, are.0))
      | inr (inr greater) ↦ let after : run.0 < from = omega (arith, greater.0, sides, are.0) in
          subst AreRuns (sym (inserted last from run runs Greater greater.1)) (are.0, all_inserted run.0 last from runs after are.1, runs_with last from end runs are.2 is fits some tests.1, are.3)
    ]

-- and a byte is shared with them as with the others, or with the one
pub shares_with : (last from end other to : ℕ) (runs : List Run) → AreRuns runs → end ≡ last + 1 → from < end → shares runs from end ≡ false
    → shares (insert_entry nat_cmp runs last from) other to ≡ (shares runs other to || meets other to (last, from))
shares_with last from end other to [] are is some apart = turned (meets other to (last, from)) false
shares_with last from end other to (run ∷ runs) are is some apart =
    let tests = neither (meets from end run) (shares runs from end) apart in
    let sides = parted from end run tests.0 in
    elim (compared last run.0) [
      | inl less ↦ ap (λ all. shares all other to) (inserted last from run runs Less less.1) ∙ turned (meets other to (last, from)) (shares (run ∷ runs) other to)
      | inr (inl same) ↦ absurd (omega (arith, same.0, sides, are.0))
      | inr (inr greater) ↦ ap (λ all. shares all other to) (inserted last from run runs Greater greater.1)
          ∙ ap (λ test. meets other to run || test) (shares_with last from end other to runs are.2 is some tests.1)
          ∙ regrouped (meets other to run) (shares runs other to) (meets other to (last, from))
    ]

-- two lists of runs share a byte where one of them does
pub shares_both : (from end : ℕ) (row others : List Run) → shares (row ++ others) from end ≡ (shares row from end || shares others from end)
shares_both from end row others = list_any-append (meets from end) row others

-- what shares no byte with both shares none with the second
pub others_apart : (from end : ℕ) (row others : List Run) → shares (row ++ others) from end ≡ false → shares others from end ≡ false
others_apart from end row others apart = (neither (shares row from end) (shares others from end) (sym (shares_both from end row others) ∙ apart)).1

-- one run more in the second
pub shares_other : (last from end other to : ℕ) (row others : List Run) → AreRuns others → end ≡ last + 1 → from < end → shares others from end ≡ false
    → shares (row ++ insert_entry nat_cmp others last from) other to ≡ (shares (row ++ others) other to || meets other to (last, from))
shares_other last from end other to row others are is some apart =
    shares_both other to row (insert_entry nat_cmp others last from) ∙ ap (λ test. shares row other to || test) (shares_with last from end other to others are is some apart)
    ∙ regrouped (shares row other to) (shares others other to) (meets other to (last, from)) ∙ ap (λ test. test || meets other to (last, from)) (sym (shares_both other to row others))
