-- What is noted of the frames that are kept, with one frame more.
use Rattle.std.proofs.Common.{◌≡◌, sym, ◌∙◌, ap, ap₂, ℕ, ◌-◌, ◌<◌, Bool, List, [], ◌∷◌, ◌++◌, ◌==◌, arith}
use Rattle.std.specs.Prelude.{◌&&◌, ◌||◌, nat_eq, nat_le, nat_lt}
use Rattle.std.specs.List.{list_any, list_all}
use Rattle.std.specs.Ordering.{nat_cmp}
use Rattle.std.specs.BTreeSet as set
use Rattle.std.proofs.Math.Bool.{or-false, and-true, or_comm}
use Rattle.std.proofs.lemmas.Bool.Decides.{nat_tests}
use Rattle.std.proofs.lemmas.List.Folds.{list_any-append, list_all-append}
use Rattle.dwg_file.specs.ByteRanges.{Run, meets, shares}
use Rattle.dwg_recover.specs.declared.frame.Frame.{Frame}
use Rattle.dwg_recover.specs.Frames.{overlaps, is_kept_pair, is_number}
use Rattle.dwg_recover.specs.Keeping.{AreNoted}

-- whether any of a list and one more passes a test
any_more : (test : Frame → Bool) (frames more : List Frame) (frame : Frame) → more ≡ frames ++ frame ∷ [] → list_any test more ≡ (list_any test frames || test frame)
any_more test frames more frame grown =
    ap (list_any test) grown ∙ list_any-append test frames (frame ∷ []) ∙ ap (λ last. list_any test frames || last) (or-false (test frame))

-- whether all do
all_more : (test : Frame → Bool) (frames more : List Frame) (frame : Frame) → more ≡ frames ++ frame ∷ [] → list_all test more ≡ (list_all test frames && test frame)
all_more test frames more frame grown =
    ap (list_all test) grown ∙ list_all-append test frames (frame ∷ []) ∙ ap (λ last. list_all test frames && last) (and-true (test frame))

-- bytes meet the run of a frame exactly where they overlap the frame
same_bytes : (from to : ℕ) (frame : Frame) → frame.from < frame.end → meets from to (frame.end - 1, frame.from) ≡ overlaps from to frame
same_bytes from to frame some = ap (λ test. test && nat_lt frame.from to) (of_last from frame.from frame.end some)
  where
    of_last : (place first end : ℕ) → first < end → nat_le place (end - 1) ≡ nat_lt place end
    of_last place first end h = grind (arith, nat_tests, h)

-- the notes with one frame more
pub noted_more : (frames more : List Frame) (frame : Frame) (taken next : List Run) (handles others pairs numbers : set.BTreeSet ℕ) (end last : ℕ)
    → AreNoted frames taken handles pairs end → frame.from < frame.end → more ≡ frames ++ frame ∷ []
    → ((from to : ℕ) → shares next from to ≡ (shares taken from to || meets from to (frame.end - 1, frame.from)))
    → ((other : ℕ) → set.contains nat_cmp others other ≡ (nat_eq frame.handle other || set.contains nat_cmp handles other))
    → ((other : ℕ) → set.contains nat_cmp numbers other ≡ (is_number other frame.pair || set.contains nat_cmp pairs other))
    → ((place : ℕ) → nat_le last place ≡ (nat_le end place && nat_le frame.end place)) → AreNoted more next others numbers last
noted_more frames more frame taken next handles others pairs numbers end last noted some grown bytes own number ends = record {
  bytes = λ from to.
      bytes from to ∙ ap₂ (λ a b. a || b) (noted.bytes from to) (same_bytes from to frame some) ∙ sym (any_more (overlaps from to) frames more frame grown);
  own = λ handle.
      own handle ∙ ap (λ b. nat_eq frame.handle handle || b) (noted.own handle) ∙ or_comm (frame.handle == handle) (list_any (λ (other : Frame). other.handle == handle) frames)
      ∙ sym (any_more (λ (other : Frame). other.handle == handle) frames more frame grown);
  numbers = λ place.
      number place ∙ ap (λ b. is_number place frame.pair || b) (noted.numbers place) ∙ or_comm (is_number place frame.pair) (is_kept_pair frames place)
      ∙ sym (any_more (λ (other : Frame). is_number place other.pair) frames more frame grown);
  ends = λ place.
      ends place ∙ ap (λ b. b && nat_le frame.end place) (noted.ends place) ∙ sym (all_more (λ (other : Frame). nat_le other.end place) frames more frame grown);
}
