-- The line on unknown sections refuses an input with a header exactly where a section is the first that passes the end.
use Rattle.std.proofs.Common.{◌≡◌, refl, sym, ◌∙◌, ap, ap₂, ℕ, ◌+◌, Bool, true, false, List, [], ◌∷◌, ◌++◌, length, Some, arith}
use Rattle.std.specs.Prelude.{◌&&◌, not, nat_lt, if◌then◌else◌}
use Rattle.std.specs.List.{AllByRecursion}
use Rattle.std.proofs.lemmas.Bool.Decides.{nat_tests}
use Rattle.dwg_base.specs.Refusal.{Refusal}
use Rattle.dwg_sections.specs.declared.header.Locator.{Locator}
use Rattle.dwg_sections.specs.declared.header.FileHeader.{FileHeader}
use Rattle.dwg_sections.specs.HeaderLaws.{HeaderIsRead}
use Rattle.dwg_file.specs.FileLines.{is_cut, first_cut, sections_row}
use Rattle.dwg_file.specs.SectionRefusals.{PassesFile, SectionsRefused, SectionsAreRefused}

-- a section that is cut passes the end of the input
passes_of_cut : (bytes : List ℕ) (locator : Locator) → is_cut bytes locator ≡ true → PassesFile bytes locator
passes_of_cut bytes locator cut =
    of_tests (nat_lt locator.number 3) refl (nat_lt 0 locator.size) refl (nat_lt (length bytes) (locator.place + locator.size)) refl
    (λ low some past. sym (ap₂ (λ a b. not a && b && nat_lt (length bytes) (locator.place + locator.size)) low some ∙ ap₂ (λ a b. a && b) refl past) ∙ cut)
  where
    of_tests : (low : Bool) → nat_lt locator.number 3 ≡ low → (some : Bool) → nat_lt 0 locator.size ≡ some → (past : Bool) → nat_lt (length bytes) (locator.place + locator.size) ≡ past
        → (nat_lt locator.number 3 ≡ low → nat_lt 0 locator.size ≡ some → nat_lt (length bytes) (locator.place + locator.size) ≡ past → (not low && some && past) ≡ true)
        → PassesFile bytes locator
    of_tests false low true some true past all = (grind (arith, nat_tests), grind (arith, nat_tests), grind (arith, nat_tests))
    of_tests false low true some false past all = let no : false ≡ true = all low some past in absurd cc
    of_tests false low false some past test all = let no : false ≡ true = all low some test in absurd cc
    of_tests true low some test past other all = let no : false ≡ true = all low test other in absurd cc

-- and one that passes it is cut
cut_of_passes : (bytes : List ℕ) (locator : Locator) → PassesFile bytes locator → is_cut bytes locator ≡ true
cut_of_passes bytes locator (high, some, past) =
    let low : nat_lt locator.number 3 ≡ false = grind (arith, nat_tests) in
    let has : nat_lt 0 locator.size ≡ true = grind (arith, nat_tests) in
    let over : nat_lt (length bytes) (locator.place + locator.size) ≡ true = grind (arith, nat_tests) in
    ap₂ (λ a b. not a && b && nat_lt (length bytes) (locator.place + locator.size)) low has ∙ over

-- the refusal of a locator's section
abbrev reported : ℕ → Locator → Refusal
reported index locator = record { line = 33; index = index; place = locator.place }

-- the first of locators whose section passes the end, so many locators after the first of all
record FirstPasses (bytes : List ℕ) (index : ℕ) (locators : List Locator) (refusal : Refusal) : Type 0 where
  before : List Locator
  locator : Locator
  after : List Locator
  whole : locators ≡ before ++ locator ∷ after
  within : AllByRecursion (λ (earlier : Locator). PassesFile bytes earlier → ⊥) before
  passes : PassesFile bytes locator
  line : refusal ≡ reported (index + length before) locator

-- where a section is cut there is a first that passes the end
first_passes : (bytes : List ℕ) (index : ℕ) (locators : List Locator) (refusal : Refusal) → first_cut bytes index locators ≡ Some refusal → FirstPasses bytes index locators refusal
unfolding first_cut
first_passes bytes index [] refusal cut = absurd cc
first_passes bytes index (locator ∷ locators) refusal cut =
    of_test (is_cut bytes locator) refl cut (λ more. first_passes bytes (index + 1) locators refusal more)
  where
    some_same : (one : Refusal) → Some one ≡ Some refusal → refusal ≡ one
    some_same one same = cc

    of_test : (test : Bool) → is_cut bytes locator ≡ test → (if test then Some (reported index locator) else first_cut bytes (index + 1) locators) ≡ Some refusal
        → (first_cut bytes (index + 1) locators ≡ Some refusal → FirstPasses bytes (index + 1) locators refusal) → FirstPasses bytes index (locator ∷ locators) refusal
    of_test true is cut others = record {
      before = [];
      locator = locator;
      after = locators;
      whole = refl;
      within = tt;
      passes = passes_of_cut bytes locator is;
      line = some_same (reported index locator) cut ∙ ap (λ n. reported n locator) (omega arith);
    }
    of_test false is cut others =
        let more = others cut in
        record {
          before = locator ∷ more.before;
          locator = more.locator;
          after = more.after;
          whole = ap (λ all. locator ∷ all) more.whole;
          within = (λ passes. let both : true ≡ false = sym (cut_of_passes bytes locator passes) ∙ is in absurd cc, more.within);
          passes = more.passes;
          line = more.line ∙ ap (λ n. reported n more.locator) (omega arith);
        }

-- a section that doesn't pass the end isn't cut
uncut : (bytes : List ℕ) (locator : Locator) → (PassesFile bytes locator → ⊥) → is_cut bytes locator ≡ false
uncut bytes locator within = of_test (is_cut bytes locator) refl
  where
    of_test : (test : Bool) → is_cut bytes locator ≡ test → is_cut bytes locator ≡ false
    of_test false is = is
    of_test true is = absurd (within (passes_of_cut bytes locator is))

-- and the first that passes the end is the one that is reported
cut_first : (bytes : List ℕ) (index : ℕ) (before : List Locator) (locator : Locator) (after : List Locator) → AllByRecursion (λ (earlier : Locator). PassesFile bytes earlier → ⊥) before
    → PassesFile bytes locator → first_cut bytes index (before ++ locator ∷ after) ≡ Some (reported (index + length before) locator)
unfolding first_cut
cut_first bytes index [] locator after within passes =
    ap (λ test. if test then Some (reported index locator) else first_cut bytes (index + 1) after) (cut_of_passes bytes locator passes)
    ∙ ap (λ n. Some (reported n locator)) (omega arith)
cut_first bytes index (first ∷ before) locator after within passes =
    ap (λ test. if test then Some (reported index first) else first_cut bytes (index + 1) (before ++ locator ∷ after)) (uncut bytes first within.0)
    ∙ cut_first bytes (index + 1) before locator after within.1 passes
    ∙ ap (λ n. Some (reported n locator)) (omega arith)

-- so the line refuses exactly there
pub sections_are_refused : HeaderIsRead → SectionsAreRefused
unfolding sections_row
sections_are_refused read bytes header refusal begins =
    let same = (read bytes header begins).1 in
    let here : sections_row bytes ≡ first_cut bytes 0 header.locators = sym (ap (λ (h : FileHeader). first_cut bytes 0 h.locators) same) in (
      (λ refused. of_first (first_passes bytes 0 header.locators refusal (sym here ∙ refused))),
      (λ refused.
          here
          ∙ ap (first_cut bytes 0) refused.whole
          ∙ cut_first bytes 0 refused.before refused.locator refused.after refused.within refused.passes
          ∙ ap (λ n. Some (reported n refused.locator)) (omega arith)
          ∙ ap Some (sym refused.line)),
    )
  where
    of_first : FirstPasses bytes 0 header.locators refusal → SectionsRefused bytes header.locators refusal
    of_first first = record {
      before = first.before;
      locator = first.locator;
      after = first.after;
      whole = first.whole;
      within = first.within;
      passes = first.passes;
      line = first.line ∙ ap (λ n. reported n first.locator) (omega arith);
    }
