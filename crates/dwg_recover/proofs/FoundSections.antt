-- A section that is found is whole where it is found.
use Rattle.std.proofs.Common.{◌≡◌, refl, sym, ◌∙◌, ap, subst, ℕ, zero, suc, ◌+◌, ◌<◌, ◌≤◌, Bool, true, false, List, [], ◌∷◌, length, Option, Some, None, arith}
use Rattle.std.specs.Prelude.{◌&&◌, ◌==◌, cond, find, Ok, Err, if◌then◌else◌}
use Rattle.std.specs.List.{range_with_len}
use Rattle.std.specs.Option.{is_none, option_and_then, option_or}
use Rattle.std.specs.Result.{is_ok, result_unwrap_or}
use Rattle.std.proofs.lemmas.Bool.Decides.{nat_tests}
use Rattle.std.proofs.lemmas.Option.{same_Some}
use Rattle.dwg_base.specs.Refusals.{Tried, first_fault}
use Rattle.dwg_base.specs.Refusal.{Refusal}
use Rattle.dwg_classes.specs.declared.class.Class.{Class}
use Rattle.dwg_classes.specs.ClassLines.{tried_classes}
use Rattle.dwg_sections.specs.declared.framed.Framed.{Framed}
use Rattle.dwg_sections.specs.declared.framed.Framed.TheVariants as framed
use Rattle.dwg_sections.specs.FramedLines.{BEFORE_CONTENT, content_at, framed_lines}
use Rattle.dwg_sections.specs.HeaderLines.{place_of}
use Rattle.dwg_recover.specs.Sections.{classes_in, first_whole, has_content, header_of, is_whole, locators_of, number_of_section, section_found, whole_at}
use Rattle.dwg_recover.specs.FoundSections.{IsFoundAt, IsNotLocated, SectionsAreFirst, located_at}

-- what a search finds passes its test
found_passes : (test : ℕ → Bool) (places : List ℕ) (place : ℕ) → find test places ≡ Some place → test place ≡ true
found_passes test [] place is = absurd cc
found_passes test (first ∷ places) place is = of_test (test first) refl is (found_passes test places place)
  where
    of_test : (passes : Bool) → test first ≡ passes → cond passes (Some first) (find test places) ≡ Some place → (find test places ≡ Some place → test place ≡ true) → test place ≡ true
    of_test true passed same others = subst (λ n. test n ≡ true) (same_Some _ _ same) passed
    of_test false passed same others = others same

-- the first whole section is whole
pub first_is_whole : (which : Framed) (bytes : List ℕ) (place : ℕ) → first_whole which bytes ≡ Some place → is_whole which bytes place ≡ true
unfolding first_whole
first_is_whole which bytes place is = found_passes (is_whole which bytes) (range_with_len 0 (length bytes)) place is

-- and so is the one that is found
pub found_is_whole : (which : Framed) (bytes : List ℕ) (place : ℕ) → section_found which bytes ≡ Some place → is_whole which bytes place ≡ true
unfolding section_found
found_is_whole which bytes place is = of_located (place_of (number_of_section which) (locators_of (header_of bytes))) is
  where
    of_test : (at : ℕ) (whole : Bool) → is_whole which bytes at ≡ whole → option_or (if whole then Some at else None) (first_whole which bytes) ≡ Some place → is_whole which bytes place ≡ true
    of_test at true passed same = subst (λ n. is_whole which bytes n ≡ true) (same_Some _ _ same) passed
    of_test at false passed same = first_is_whole which bytes place same

    of_located : (located : Option ℕ) → option_or (option_and_then (whole_at which bytes) located) (first_whole which bytes) ≡ Some place → is_whole which bytes place ≡ true
    of_located None same = first_is_whole which bytes place same
    of_located (Some at) same = of_test at (is_whole which bytes at) refl same

-- the two parts of a section that is whole
pub record IsWholeSection (which : Framed) (bytes : List ℕ) (place : ℕ) : Type 0 where
  pub framed : first_fault (framed_lines which place) bytes ≡ None
  pub content : has_content which bytes place ≡ true

-- no line on it fails, and its content is what it has to be
pub whole_parts : (which : Framed) (bytes : List ℕ) (place : ℕ) → is_whole which bytes place ≡ true → IsWholeSection which bytes place
unfolding is_whole
whole_parts which bytes place is = of_fault (first_fault (framed_lines which place) bytes) refl is
  where
    of_fault : (fault : Option Refusal) → first_fault (framed_lines which place) bytes ≡ fault → (is_none fault && has_content which bytes place) ≡ true → IsWholeSection which bytes place
    of_fault None same both = record { framed = same; content = both }
    of_fault (Some refusal) same both = absurd cc

-- the classes of a section that is whole are those that its content is cut into
pub classes_cut : (bytes : List ℕ) (place : ℕ) → is_whole framed.Classes bytes place ≡ true → tried_classes (place + BEFORE_CONTENT) (content_at bytes place) ≡ Ok (classes_in bytes place)
classes_cut bytes place is = of_tried (tried_classes (place + BEFORE_CONTENT) (content_at bytes place)) (whole_parts framed.Classes bytes place is).content
  where
    of_tried : (tried : Tried (List Class)) → is_ok tried ≡ true → tried ≡ Ok (result_unwrap_or tried [])
    of_tried (Ok classes) ok = refl
    of_tried (Err refusal) ok = absurd cc

-- a search of places in a row finds the first that passes
first_of_places : (test : ℕ → Bool) (low count place : ℕ) → find test (range_with_len low count) ≡ Some place
    → (place < low + count) × ((other : ℕ) → low ≤ other → other < place → test other ≡ false)
first_of_places test low zero place is = absurd cc
first_of_places test low (suc count) place is = of_test (test low) refl is (first_of_places test (low + 1) count place)
  where
    of_place : (other : ℕ) (same : Bool) → (other == low) ≡ same → low ≤ other → test low ≡ false → (low + 1 ≤ other → test other ≡ false) → test other ≡ false
    of_place other true known from failed after =
        let is_low : low ≡ other = grind (arith, nat_tests, known) in
        subst (λ n. test n ≡ false) is_low failed
    of_place other false known from failed after = after (grind (arith, nat_tests, known, from))

    of_test : (passes : Bool) → test low ≡ passes → cond passes (Some low) (find test (range_with_len (low + 1) count)) ≡ Some place
        → (find test (range_with_len (low + 1) count) ≡ Some place → (place < low + 1 + count) × ((other : ℕ) → low + 1 ≤ other → other < place → test other ≡ false))
        → (place < low + suc count) × ((other : ℕ) → low ≤ other → other < place → test other ≡ false)
    of_test true passed same others =
        let at : low ≡ place = same_Some _ _ same in
        (omega (arith, at), λ other from before. absurd (omega (arith, at, from, before)))
    of_test false failed same others =
        let after = others same in
        (omega (arith, after.0), λ other from before. of_place other (other == low) refl from failed (λ later. after.1 other later before))

-- one that finds none finds that none passes
none_of_places : (test : ℕ → Bool) (low count : ℕ) → find test (range_with_len low count) ≡ None → (other : ℕ) → low ≤ other → other < low + count → test other ≡ false
none_of_places test low zero is other from within = absurd (omega (arith, from, within))
none_of_places test low (suc count) is other from within = of_test (test low) refl is (λ none later. none_of_places test (low + 1) count none other later (omega (arith, within)))
  where
    of_place : (same : Bool) → (other == low) ≡ same → test low ≡ false → (low + 1 ≤ other → test other ≡ false) → test other ≡ false
    of_place true known failed after =
        let is_low : low ≡ other = grind (arith, nat_tests, known) in
        subst (λ n. test n ≡ false) is_low failed
    of_place false known failed after = after (grind (arith, nat_tests, known, from))

    of_test : (passes : Bool) → test low ≡ passes → cond passes (Some low) (find test (range_with_len (low + 1) count)) ≡ None
        → (find test (range_with_len (low + 1) count) ≡ None → low + 1 ≤ other → test other ≡ false) → test other ≡ false
    of_test true passed same others = absurd cc
    of_test false failed same others = of_place (other == low) refl failed (others same)

-- where the locator leads to no whole section the first is sought
sought : (which : Framed) (bytes : List ℕ) (located found : Option ℕ) → ((at : ℕ) → located ≡ Some at → is_whole which bytes at ≡ false)
    → option_or (option_and_then (whole_at which bytes) located) (first_whole which bytes) ≡ found → first_whole which bytes ≡ found
sought which bytes None found never same = same
sought which bytes (Some at) found never same = ap (λ test. option_or (if test then Some at else None) (first_whole which bytes)) (sym (never at refl)) ∙ same

-- so it is
pub sections_are_first : SectionsAreFirst
unfolding section_found first_whole
sections_are_first which bytes = (found, missing)
  where
    found : (place : ℕ) → section_found which bytes ≡ Some place → IsFoundAt which bytes place
    found place is = record {
      whole = found_is_whole which bytes place is;
      located = λ at there whole.
          same_Some _ _
          (sym is ∙ ap (λ located. option_or (option_and_then (whole_at which bytes) located) (first_whole which bytes)) there
          ∙ ap (λ test. option_or (if test then Some at else None) (first_whole which bytes)) whole);
      first = λ never.
          let first = first_of_places (is_whole which bytes) 0 (length bytes) place (sought which bytes (located_at which bytes) (Some place) never is) in
          (omega (arith, first.0), λ other before. first.1 other (omega arith) before);
    }

    missing : section_found which bytes ≡ None → IsNotLocated which bytes × ((other : ℕ) → other < length bytes → is_whole which bytes other ≡ false)
    missing none =
        let never : IsNotLocated which bytes = λ at there. not_located at there (is_whole which bytes at) refl in
        let sought_none = sought which bytes (located_at which bytes) None never none in
        (never, λ other within. none_of_places (is_whole which bytes) 0 (length bytes) sought_none other (omega arith) (omega (arith, within)))
      where
        not_located : (at : ℕ) → located_at which bytes ≡ Some at → (whole : Bool) → is_whole which bytes at ≡ whole → is_whole which bytes at ≡ false
        not_located at there false is = is
        not_located at there true is =
            let some : Some at ≡ None = sym (ap (λ located. option_or (option_and_then (whole_at which bytes) located) (first_whole which bytes)) there
            ∙ ap (λ test. option_or (if test then Some at else None) (first_whole which bytes)) is) ∙ none in
            absurd cc
