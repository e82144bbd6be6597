-- The scan along the places: where a byte lies in a frame that is kept, no frame that begins there is; and how far the scan is.
use Rattle.std.proofs.Common.{◌≡◌, refl, sym, ◌∙◌, ap, subst, ℕ, zero, suc, ◌+◌, ◌-◌, ◌<◌, ◌≤◌, Bool, true, false, List, [], ◌∷◌, ◌++◌, length, Option, Some, None, inl, inr, arith}
use Rattle.std.specs.Prelude.{◌⊎◌, not, ◌||◌, Ok, Err}
use Rattle.std.specs.List.{list_any, range_with_len}
use Rattle.std.proofs.lemmas.Bool.Decides.{nat_tests}
use Rattle.dwg_base.specs.Refusals.{Tried}
use Rattle.dwg_classes.specs.declared.class.Class.{Class}
use Rattle.dwg_object.specs.declared.span.Span.{Span}
use Rattle.dwg_object.specs.FrameLines.{tried_span}
use Rattle.dwg_recover.specs.declared.frame.Frame.{Frame}
use Rattle.dwg_recover.specs.declared.objects.FrameObject.{FrameObject}
use Rattle.dwg_recover.specs.Frames.{is_free, keep_free, overlaps, scanned, scanned_over, with_scanned}
use Rattle.dwg_recover.specs.KeptObjects.{IsKeptAt, IsNext, IsScanned, ReportsNext, scanned_from}
use Rattle.dwg_recover.proofs.FrameScanning.{no_span, not_free, span_there}
use Rattle.dwg_recover.proofs.FoundLemmas.{span_inside}

-- what holds of either test
with_true : (test : Bool) → (test || true) ≡ true
with_true true = refl
with_true false = refl

-- what isn't not so
was_met : (test : Bool) → not test ≡ false → test ≡ true
was_met true is = refl
was_met false is = absurd cc

-- a frame that shares a byte shares one with all that begins there and reaches it
any_wider : (place end : ℕ) (frames : List Frame) → place < end → list_any (overlaps place (place + 1)) frames ≡ true → list_any (overlaps place end) frames ≡ true
any_wider place end [] before any = absurd cc
any_wider place end (frame ∷ frames) before any = of_test (overlaps place (place + 1) frame) refl any (λ others. any_wider place end frames before others)
  where
    of_test : (test : Bool) → overlaps place (place + 1) frame ≡ test → (test || list_any (overlaps place (place + 1)) frames) ≡ true
        → (list_any (overlaps place (place + 1)) frames ≡ true → list_any (overlaps place end) frames ≡ true) → list_any (overlaps place end) (frame ∷ frames) ≡ true
    of_test true is any later =
        let wider : overlaps place end frame ≡ true = grind (arith, nat_tests, is) in ap (λ test. test || list_any (overlaps place end) frames) wider
    of_test false is any later = ap (λ test. overlaps place end frame || test) (later any) ∙ with_true (overlaps place end frame)

-- where the byte at a place lies in a frame, a frame that begins there isn't kept
taken_stays : (classes : List Class) (bytes : List ℕ) (kept : List Frame) (place : ℕ) (tried : Tried Span) → tried ≡ tried_span place 0 bytes → is_free kept place (place + 1) ≡ false
    → kept ≡ keep_free kept (scanned classes bytes place)
taken_stays classes bytes kept place (Err refusal) is taken = no_span classes bytes kept place refusal is
taken_stays classes bytes kept place (Ok span) is taken =
    let inside = span_inside bytes place span (span_there bytes place span is) in
    not_free classes bytes kept place span is (ap not (any_wider place span.end kept inside.some (was_met (list_any (overlaps place (place + 1)) kept) taken)))

-- what is left at a place is what is left after it, of the frames that are kept there
one_more : (classes : List Class) (bytes : List ℕ) (kept more : List Frame) (place : ℕ) → place < length bytes → more ≡ keep_free kept (scanned classes bytes place)
    → scanned_from classes bytes more (place + 1) ≡ scanned_from classes bytes kept place
one_more classes bytes kept more place inside same =
    let one : length bytes - place ≡ suc (length bytes - (place + 1)) = omega arith in
    ap (λ (frames : List Frame). scanned_over classes bytes frames (range_with_len (place + 1) (length bytes - (place + 1)))) same
    ∙ sym (ap (λ (n : ℕ). scanned_over classes bytes kept (range_with_len place n)) one)

-- after the end nothing is left
none_left : (classes : List Class) (bytes : List ℕ) (kept : List Frame) (place : ℕ) → length bytes ≤ place → scanned_from classes bytes kept place ≡ kept
none_left classes bytes kept place past =
    let none : length bytes - place ≡ 0 = omega arith in ap (λ (n : ℕ). scanned_over classes bytes kept (range_with_len place n)) none

-- places that lie in frames may be passed
passed : (classes : List Class) (bytes : List ℕ) (kept : List Frame) (count place : ℕ) → ((other : ℕ) → place ≤ other → other < place + count → is_free kept other (other + 1) ≡ false)
    → scanned_from classes bytes kept (place + count) ≡ scanned_from classes bytes kept place
passed classes bytes kept zero place taken = let same : place + 0 ≡ place = omega arith in ap (scanned_from classes bytes kept) same
passed classes bytes kept (suc count) place taken =
    of_place (inside place (length bytes)) (passed classes bytes kept count (place + 1) (λ other from within. taken other (omega (arith, from)) (omega (arith, within))))
  where
    inside : (x y : ℕ) → (x < y) ⊎ (y ≤ x)
    inside x y = grind (arith, nat_tests)

    of_place : (place < length bytes) ⊎ (length bytes ≤ place) → scanned_from classes bytes kept ((place + 1) + count) ≡ scanned_from classes bytes kept (place + 1)
        → scanned_from classes bytes kept (place + suc count) ≡ scanned_from classes bytes kept place
    of_place (inl before) others =
        let further : place + suc count ≡ (place + 1) + count = omega arith in
        ap (scanned_from classes bytes kept) further ∙ others
        ∙ one_more classes bytes kept kept place before (taken_stays classes bytes kept place (tried_span place 0 bytes) refl (taken place (omega arith) (omega arith)))
    of_place (inr past) others = none_left classes bytes kept (place + suc count) (omega (arith, past)) ∙ sym (none_left classes bytes kept place past)

-- the scan begins where it is
pub scan_begins : (classes : List Class) (bytes : List ℕ) (kept : List Frame) (place begun : ℕ) → IsScanned classes bytes kept place kept place begun begun
scan_begins classes bytes kept place begun = record { left = refl; after = omega arith; spent = omega arith }

-- it goes on by one place
pub scan_goes_on : (classes : List Class) (bytes : List ℕ) (entry : List Frame) (from : ℕ) (kept more : List Frame) (place begun steps spent : ℕ) → IsScanned classes bytes entry from kept place begun steps
    → place < length bytes → more ≡ keep_free kept (scanned classes bytes place) → spent ≤ steps + 15 → IsScanned classes bytes entry from more (place + 1) begun spent
scan_goes_on classes bytes entry from kept more place begun steps spent is inside same few = record {
  left = one_more classes bytes kept more place inside same ∙ is.left;
  after = omega (arith, is.after);
  spent = omega (arith, is.spent, few);
}

-- it goes on past places that lie in frames
pub scan_passes : (classes : List Class) (bytes : List ℕ) (entry : List Frame) (from : ℕ) (kept : List Frame) (place next begun steps : ℕ) → IsScanned classes bytes entry from kept place begun steps → place ≤ next
    → ((other : ℕ) → place ≤ other → other < next → is_free kept other (other + 1) ≡ false) → IsScanned classes bytes entry from kept next begun steps
scan_passes classes bytes entry from kept place next begun steps is before taken =
    let count : ℕ = next - place in
    let there : next ≡ place + count = omega arith in record {
      left =
          ap (scanned_from classes bytes kept) there
          ∙ passed classes bytes kept count place (λ other at within. taken other at (omega (arith, within, there))) ∙ is.left;
      after = omega (arith, is.after, before);
      spent = omega (arith, is.spent, before);
    }

-- a frame that is kept at a place is the next one, where nothing is kept before it
pub next_found : (classes : List Class) (bytes : List ℕ) (kept : List Frame) (from place begun steps spent : ℕ) (found : FrameObject) → IsScanned classes bytes kept from kept place begun steps
    → place < length bytes → IsKeptAt classes bytes kept place found → spent ≤ steps + 15 → IsNext classes bytes kept from begun spent found
next_found classes bytes kept from place begun steps spent found is inside at few =
    let more : List Frame = kept ++ found.frame ∷ [] in
    let next = scan_goes_on classes bytes kept from kept more place begun steps spent is inside at.more few in
    let same = sym at.from in
    record {
      at = subst (λ (p : ℕ). IsKeptAt classes bytes kept p found) same at;
      after = subst (λ (p : ℕ). from ≤ p) same is.after;
      within = subst (λ (p : ℕ). p < length bytes) same inside;
      scanned = subst (λ (p : ℕ). IsScanned classes bytes kept from more (p + 1) begun spent) same next;
    }

-- what is reported of it where one is found, and where none is
pub next_reported : (classes : List Class) (bytes : List ℕ) (kept : List Frame) (from begun steps : ℕ) (reported : Option FrameObject) (found : FrameObject) → reported ≡ Some found
    → ReportsNext classes bytes kept from begun steps reported → IsNext classes bytes kept from begun steps found
next_reported classes bytes kept from begun steps reported found is reports = subst (ReportsNext classes bytes kept from begun steps) is reports

pub none_reported : (classes : List Class) (bytes : List ℕ) (kept : List Frame) (from begun steps : ℕ) (reported : Option FrameObject) → reported ≡ None
    → ReportsNext classes bytes kept from begun steps reported → scanned_from classes bytes kept from ≡ kept
none_reported classes bytes kept from begun steps reported is reports = subst (ReportsNext classes bytes kept from begun steps) is reports

-- what is left of the whole input is what is kept at any place of it
pub scan_whole : (classes : List Class) (bytes : List ℕ) (kept : List Frame) → scanned_from classes bytes kept 0 ≡ with_scanned classes bytes kept
unfolding with_scanned
scan_whole classes bytes kept = let all : length bytes - 0 ≡ length bytes = omega arith in ap (λ (n : ℕ). scanned_over classes bytes kept (range_with_len 0 n)) all
