-- Sections that are looked for: where one is whole its begin sentinel stands, and the places before the next sentinel are passed over.
use Rattle.std.proofs.Common.{◌≡◌, refl, sym, ◌∙◌, ap, ap₂, subst, ℕ, zero, suc, ◌+◌, ◌-◌, ◌*◌, ◌<◌, ◌≤◌, Bool, true, false, ◌&&◌, List, [], ◌∷◌, length, drop, get_or, Option, Some, None, inl, inr, arith, ltb-false, length-drop}
use Rattle.std.specs.Prelude.{cond, find, if◌then◌else◌}
use Rattle.std.specs.List.{range_with_len}
use Rattle.std.specs.Option.{is_none, option_and_then, option_or}
use Rattle.std.proofs.lemmas.Bool.{cases_eq, cond-true, cond-false, false_from_ne_true, not-false}
use Rattle.std.proofs.lemmas.List.{get_or-take, get_or-drop}
use Rattle.std.proofs.lemmas.Option.{same_Some}
use Rattle.std.proofs.lemmas.Slice.Eq.{bytes_eq-Decides}
use Rattle.memchr.specs.Find.{NoneBefore, Nowhere, OccursAt}
use Rattle.dwg_base.specs.Refusals.{refuse_if, first_fault}
use Rattle.dwg_base.specs.Refusal.{Refusal}
use Rattle.dwg_sections.specs.declared.framed.Framed.{Framed}
use Rattle.dwg_sections.specs.declared.framed.Framed.TheVariants as framed
use Rattle.dwg_sections.specs.Framed.{begin_sentinel}
use Rattle.dwg_sections.specs.FramedLines.{first_line, size_at, framed_short_line, begin_line, length_line, framed_lines}
use Rattle.dwg_sections.specs.HeaderLines.{bytes_at, place_of}
use Rattle.dwg_recover.specs.Sections.{first_whole, has_content, header_of, is_whole, locators_of, number_of_section, section_found, whole_at}

-- two tests that hold together hold each
both_hold : (one other : Bool) → (one && other) ≡ true → (one ≡ true) × (other ≡ true)
both_hold true other holds = (refl, holds)
both_hold false other holds = absurd cc

-- no refusal of two is none of either
neither : (first second : Option Refusal) → is_none (option_or first second) ≡ true → (is_none first ≡ true) × (is_none second ≡ true)
neither None second none = (refl, none)
neither (Some refusal) second none = absurd cc

-- a line that does not refuse has its test false
holds_not : (test : Bool) (line index place : ℕ) → is_none (refuse_if test line index place) ≡ true → test ≡ false
holds_not false line index place none = refl
holds_not true line index place none = absurd cc

-- what is asked of a section that is whole
pub record WholeSection (which : Framed) (bytes : List ℕ) (place : ℕ) : Type 0 where
  pub begins : bytes_at bytes place 16 ≡ begin_sentinel which
  pub within : place + 38 + size_at bytes place ≤ length bytes

-- a section that is whole is so
pub whole_section : (which : Framed) (bytes : List ℕ) (place : ℕ) → is_whole which bytes place ≡ true → WholeSection which bytes place
unfolding is_whole framed_short_line begin_line length_line
whole_section which bytes place whole =
    let parts = both_hold (is_none (first_fault (framed_lines which place) bytes)) (has_content which bytes place) whole in
    let short = neither (framed_short_line which place bytes) _ parts.0 in
    let begins = neither (begin_line which place bytes) _ short.1 in
    let cut = neither (length_line which place bytes) _ begins.1 in
    record {
      begins = (bytes_eq-Decides _ _).0 (not-false _ (holds_not _ (first_line which + 1) 0 place begins.0));
      within = ltb-false _ _ (holds_not _ (first_line which + 2) 0 (place + 16) cut.0);
    }

-- a begin sentinel has sixteen bytes
sixteen : (which : Framed) → length (begin_sentinel which) ≡ 16
sixteen framed.Variables = refl
sixteen framed.Classes = refl

-- what stands at a place stands so far after an earlier one
occurs_later : (bytes sentinel : List ℕ) (at place : ℕ) → length sentinel ≡ 16 → at ≤ place → place + 16 ≤ length bytes → bytes_at bytes place 16 ≡ sentinel → OccursAt (drop at bytes) sentinel (place - at)
occurs_later bytes sentinel at place long after within stands = record {
  fits = omega (arith, length-drop at bytes);
  reads = λ j below.
      get_or-drop at bytes (place - at + j) 0
      ∙ ap (λ (i : ℕ). get_or bytes i 0) (omega arith)
      ∙ sym (get_or-drop place bytes j 0)
      ∙ sym (get_or-take 16 (drop place bytes) j 0 (omega arith))
      ∙ ap (λ (xs : List ℕ). get_or xs j 0) stands;
}

-- where the sentinel of a section isn't found after a place, the section isn't whole
not_whole : (which : Framed) (bytes left sentinel : List ℕ) (at place : ℕ) → left ≡ drop at bytes → sentinel ≡ begin_sentinel which → at ≤ place → (OccursAt left sentinel (place - at) → ⊥)
    → is_whole which bytes place ≡ false
not_whole which bytes left sentinel at place there is after nowhere = false_from_ne_true _ (λ whole.
    let section = whole_section which bytes place whole in
    nowhere (subst (λ (xs : List ℕ). OccursAt xs sentinel (place - at)) (sym there)
    (occurs_later bytes sentinel at place (ap length is ∙ sixteen which) after (omega (arith, section.within)) (section.begins ∙ sym is))))

-- before the next sentinel no section is whole
pub found_next : (which : Framed) (bytes left sentinel : List ℕ) (at found : ℕ) → left ≡ drop at bytes → sentinel ≡ begin_sentinel which
    → NoneBefore (OccursAt left sentinel) 0 (length left + 1) found × OccursAt left sentinel found
    → (at ≤ at + found) × (at + found < length bytes) × ((other : ℕ) → at ≤ other → other < at + found → is_whole which bytes other ≡ false)
found_next which bytes left sentinel at found there is first = (
  omega arith,
  omega (arith, first.1.fits, ap length is ∙ sixteen which, ap length there, length-drop at bytes),
  λ other after before. not_whole which bytes left sentinel at other there is after (first.0.before (other - at) (omega arith) (omega arith)),
)

-- what occurs after a place occurs so far after it in the input
pub occurs_there : (which : Framed) (bytes left sentinel : List ℕ) (at found : ℕ) → left ≡ drop at bytes → sentinel ≡ begin_sentinel which → OccursAt left sentinel found → OccursAt bytes (begin_sentinel which) (at + found)
occurs_there which bytes left sentinel at found there is occurs =
    subst (λ (needle : List ℕ). OccursAt bytes needle (at + found)) is (record {
      fits = omega (arith, occurs.fits, ap length is ∙ sixteen which, ap length there, length-drop at bytes);
      reads = λ j below.
          ap (λ (i : ℕ). get_or bytes i 0) (omega arith) ∙ sym (get_or-drop at bytes (found + j) 0) ∙ sym (ap (λ (xs : List ℕ). get_or xs (found + j) 0) there)
          ∙ occurs.reads j below;
    })

-- where there is none, none is whole
pub none_next : (which : Framed) (bytes left sentinel : List ℕ) (at : ℕ) → left ≡ drop at bytes → sentinel ≡ begin_sentinel which → Nowhere (OccursAt left sentinel) 0 (length left + 1)
    → (other : ℕ) → at ≤ other → is_whole which bytes other ≡ false
none_next which bytes left sentinel at there is none other after =
    not_whole which bytes left sentinel at other there is after (λ occurs. none (other - at) (omega arith) (omega (arith, occurs.fits)) occurs)

-- numbers at which a test fails are passed over
find_skips : (test : ℕ → Bool) (from count next : ℕ) → from ≤ next → next ≤ from + count → ((k : ℕ) → from ≤ k → k < next → test k ≡ false)
    → find test (range_with_len from count) ≡ find test (range_with_len next (from + count - next))
find_skips test from zero next least most fails =
    let end : 0 ≡ from + 0 - next = omega arith in
    ap (λ (n : ℕ). find test (range_with_len next n)) end
find_skips test from (suc count) next least most fails =
    let here : from ≡ next → suc count ≡ from + suc count - next = λ same. omega arith in
    let on : from + 1 + count - next ≡ from + suc count - next = omega arith in
    elim (cases_eq from next) [
      | inl same ↦ ap₂ (λ (a n : ℕ). find test (range_with_len a n)) same (here same)
      | inr other ↦ cond-false (test from) (Some from) _ (fails from (omega arith) (omega arith))
          ∙ find_skips test (from + 1) count next (omega arith) (omega arith) (λ k over below. fails k (omega arith) below)
          ∙ ap (λ (n : ℕ). find test (range_with_len next n)) on
    ]

-- of what is left from a number on: that number and what is after it
header_fields_of : (test : ℕ → Bool) (all place : ℕ) → place < all → find test (range_with_len place (all - place)) ≡ cond (test place) (Some place) (find test (range_with_len (place + 1) (all - (place + 1))))
header_fields_of test all place below =
    let more : all - place ≡ suc (all - (place + 1)) = omega arith in
    ap (λ (n : ℕ). find test (range_with_len place n)) more

-- what is found after a number is found after a later one, if none between passes
skipped : (test : ℕ → Bool) (all at place : ℕ) → at ≤ place → place ≤ all → ((k : ℕ) → at ≤ k → k < place → test k ≡ false)
    → find test (range_with_len at (all - at)) ≡ find test (range_with_len place (all - place))
skipped test all at place after below fails =
    let left : at + (all - at) - place ≡ all - place = omega arith in
    find_skips test at (all - at) place after (omega arith) fails ∙ ap (λ (n : ℕ). find test (range_with_len place n)) left

-- the first number that passes is found
pub found_at : (test : ℕ → Bool) (all at place : ℕ) (whole : Option ℕ) → at ≤ place → place < all → ((k : ℕ) → at ≤ k → k < place → test k ≡ false) → test place ≡ true
    → find test (range_with_len at (all - at)) ≡ whole → Some place ≡ whole
found_at test all at place whole after below fails passes left =
    sym (cond-true (test place) (Some place) _ passes) ∙ sym (header_fields_of test all place below) ∙ sym (skipped test all at place after (omega arith) fails) ∙ left

-- after a number that doesn't, what is left gives the whole
pub found_later : (test : ℕ → Bool) (all at place : ℕ) (whole : Option ℕ) → at ≤ place → place < all → ((k : ℕ) → at ≤ k → k < place → test k ≡ false) → test place ≡ false
    → find test (range_with_len at (all - at)) ≡ whole → find test (range_with_len (place + 1) (all - (place + 1))) ≡ whole
found_later test all at place whole after below fails failed left =
    sym (cond-false (test place) (Some place) _ failed) ∙ sym (header_fields_of test all place below) ∙ sym (skipped test all at place after (omega arith) fails) ∙ left

-- where none that is left passes, none is found
pub found_nowhere : (test : ℕ → Bool) (all at : ℕ) (whole : Option ℕ) → at ≤ all → ((k : ℕ) → at ≤ k → k < all → test k ≡ false) → find test (range_with_len at (all - at)) ≡ whole → None ≡ whole
found_nowhere test all at whole within fails left =
    let end : 0 ≡ all - all = omega arith in
    ap (λ (n : ℕ). find test (range_with_len all n)) end ∙ sym (skipped test all at all within (omega arith) fails) ∙ left

-- a number that is found passes
found_passes : (test : ℕ → Bool) (numbers : List ℕ) (number : ℕ) → find test numbers ≡ Some number → test number ≡ true
found_passes test [] number found = absurd cc
found_passes test (first ∷ numbers) number found = by_test (test first) refl found (found_passes test numbers number)
  where
    by_test : (passes : Bool) → test first ≡ passes → cond passes (Some first) (find test numbers) ≡ Some number → (find test numbers ≡ Some number → test number ≡ true) → test number ≡ true
    by_test true passes same others = ap test (sym (same_Some first number same)) ∙ passes
    by_test false fails later others = others later

-- a place where a section is whole is one
whole_there : (which : Framed) (bytes : List ℕ) (located : Option ℕ) (place : ℕ) → option_and_then (whole_at which bytes) located ≡ Some place → is_whole which bytes place ≡ true
whole_there which bytes None place found = absurd cc
whole_there which bytes (Some other) place found = by_test (is_whole which bytes other) refl found
  where
    by_test : (whole : Bool) → is_whole which bytes other ≡ whole → (if whole then Some other else None) ≡ Some place → is_whole which bytes place ≡ true
    by_test true whole same = ap (is_whole which bytes) (sym (same_Some other place same)) ∙ whole
    by_test false whole none = absurd cc

-- where a section is found, it is whole
pub found_is_whole : (which : Framed) (bytes : List ℕ) (place : ℕ) → section_found which bytes ≡ Some place → is_whole which bytes place ≡ true
unfolding section_found first_whole
found_is_whole which bytes place found =
    by_located (option_and_then (whole_at which bytes) (place_of (number_of_section which) (locators_of (header_of bytes)))) refl found
  where
    by_located : (there : Option ℕ) → option_and_then (whole_at which bytes) (place_of (number_of_section which) (locators_of (header_of bytes))) ≡ there
        → option_or there (find (is_whole which bytes) (range_with_len 0 (length bytes))) ≡ Some place → is_whole which bytes place ≡ true
    by_located None none later = found_passes (is_whole which bytes) (range_with_len 0 (length bytes)) place later
    by_located (Some other) same is = whole_there which bytes _ place (same ∙ is)

-- so it lies in the input
pub found_within : (which : Framed) (bytes : List ℕ) (found : Option ℕ) (place : ℕ) → found ≡ section_found which bytes → found ≡ Some place → place + 38 + size_at bytes place ≤ length bytes
found_within which bytes found place is same = (whole_section which bytes place (found_is_whole which bytes place (sym is ∙ same))).within

-- how far the search of a first section is: the place lies in the input, what is left there gives the whole, and each section that was tried took no more than its steps
pub record IsAlong (which : Framed) (bytes : List ℕ) (tried at begun steps : ℕ) : Type 0 where
  pub far : tried ≤ at
  pub within : at ≤ length bytes
  pub left : find (is_whole which bytes) (range_with_len at (length bytes - at)) ≡ first_whole which bytes
  pub spent : steps ≤ begun + 15 * tried

-- it begins at the begin
pub begins : (which : Framed) (bytes : List ℕ) (begun : ℕ) → IsAlong which bytes 0 0 begun begun
unfolding first_whole
begins which bytes begun =
    let all : length bytes - 0 ≡ length bytes = omega arith in
    record {
      far = omega arith;
      within = omega arith;
      left = ap (λ (n : ℕ). find (is_whole which bytes) (range_with_len 0 n)) all;
      spent = omega arith;
    }

-- it goes on after a place where no section is whole
pub goes_on : (which : Framed) (bytes : List ℕ) (tried at place begun steps more : ℕ) → IsAlong which bytes tried at begun steps
    → (at ≤ place) × (place < length bytes) × ((other : ℕ) → at ≤ other → other < place → is_whole which bytes other ≡ false) → is_whole which bytes place ≡ false → more ≤ steps + 15
    → IsAlong which bytes (tried + 1) (place + 1) begun more
goes_on which bytes tried at place begun steps more is next whole few = record {
  far = omega (arith, is.far, next.0);
  within = omega (arith, next.1);
  left = found_later (is_whole which bytes) (length bytes) at place _ next.0 next.1 next.2 whole is.left;
  spent = omega (arith, is.spent, few);
}

-- it ends where one is
pub ends_there : (which : Framed) (bytes : List ℕ) (tried at place begun steps : ℕ) → IsAlong which bytes tried at begun steps
    → (at ≤ place) × (place < length bytes) × ((other : ℕ) → at ≤ other → other < place → is_whole which bytes other ≡ false) → is_whole which bytes place ≡ true → Some place ≡ first_whole which bytes
ends_there which bytes tried at place begun steps is next whole = found_at (is_whole which bytes) (length bytes) at place _ next.0 next.1 next.2 whole is.left

-- and where none is after the place
pub ends_nowhere : (which : Framed) (bytes : List ℕ) (tried at begun steps : ℕ) → IsAlong which bytes tried at begun steps
    → ((other : ℕ) → at ≤ other → other < length bytes → is_whole which bytes other ≡ false) → None ≡ first_whole which bytes
ends_nowhere which bytes tried at begun steps is none = found_nowhere (is_whole which bytes) (length bytes) at _ is.within none is.left
