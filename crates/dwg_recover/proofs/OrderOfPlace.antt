-- Frames gathered place by place begin in order, and all are there.
use Rattle.std.proofs.Common.{◌≡◌, refl, ◌∙◌, ap, ap₂, ℕ, zero, suc, ◌+◌, ◌<◌, ◌≤◌, Bool, true, false, List, [], ◌∷◌, ◌++◌, arith, ◌==◌, cond}
use Rattle.std.specs.Prelude.{flat_map}
use Rattle.std.specs.List.{AllByRecursion, range_with_len}
use Rattle.std.proofs.lemmas.Bool.Decides.{nat_tests}
use Rattle.std.proofs.lemmas.List.{append-nil}
use Rattle.std.proofs.lemmas.List.Elements.{filter-append}
use Rattle.dwg_recover.specs.declared.frame.Frame.{Frame}
use Rattle.dwg_recover.specs.Frames.{in_order_of_place}
use Rattle.dwg_recover.specs.OrderOfPlace.{AreUp, PlacesAreInOrder, at_place}

-- the frames at places in a row, one after the other
abbrev pub at_places : List Frame → ℕ → ℕ → List Frame
at_places frames low count = flat_map (at_place frames) (range_with_len low count)

-- the frames of two lists at a place
place_joined : (ones others : List Frame) (place : ℕ) → at_place (ones ++ others) place ≡ at_place ones place ++ at_place others place
place_joined ones others place = filter-append (λ (frame : Frame). frame.from == place) ones others

-- of the frames at a place, all are there
place_again : (frames : List Frame) (place : ℕ) → at_place (at_place frames place) place ≡ at_place frames place
place_again [] place = refl
place_again (frame ∷ frames) place = of_test (frame.from == place) refl (place_again frames place)
  where
    of_test : (here : Bool) → (frame.from == place) ≡ here → at_place (at_place frames place) place ≡ at_place frames place
        → at_place (cond here (frame ∷ at_place frames place) (at_place frames place)) place ≡ cond here (frame ∷ at_place frames place) (at_place frames place)
    of_test true known same = ap (λ test. cond test (frame ∷ at_place (at_place frames place) place) (at_place (at_place frames place) place)) known ∙ ap (λ (others : List Frame). frame ∷ others) same
    of_test false known same = same

-- and none is elsewhere
place_other : (frames : List Frame) (here place : ℕ) → (here == place) ≡ false → at_place (at_place frames here) place ≡ []
place_other [] here place other = refl
place_other (frame ∷ frames) here place other = of_test (frame.from == here) refl (place_other frames here place other)
  where
    of_test : (stands : Bool) → (frame.from == here) ≡ stands → at_place (at_place frames here) place ≡ [] → at_place (cond stands (frame ∷ at_place frames here) (at_place frames here)) place ≡ []
    of_test true known none =
        let elsewhere : (frame.from == place) ≡ false = grind (arith, nat_tests, known, other) in
        ap (λ test. cond test (frame ∷ at_place (at_place frames here) place) (at_place (at_place frames here) place)) elsewhere ∙ none
    of_test false known none = none

-- before places in a row there is no frame of them
places_before : (frames : List Frame) (low count place : ℕ) → place < low → at_place (at_places frames low count) place ≡ []
places_before frames low zero place before = refl
places_before frames low (suc count) place before =
    let other : (low == place) ≡ false = grind (arith, nat_tests, before) in
    place_joined (at_place frames low) (at_places frames (low + 1) count) place
    ∙ ap₂ (λ (ones others : List Frame). ones ++ others) (place_other frames low place other) (places_before frames (low + 1) count place (omega (arith, before)))

-- at one of them there are those that were there
places_same : (frames : List Frame) (low count place : ℕ) → low ≤ place → place < low + count → at_place (at_places frames low count) place ≡ at_place frames place
places_same frames low zero place from within = absurd (omega (arith, from, within))
places_same frames low (suc count) place from within =
    place_joined (at_place frames low) (at_places frames (low + 1) count) place
    ∙ of_test (low == place) refl (λ after. places_same frames (low + 1) count place after (omega (arith, within)))
  where
    of_test : (here : Bool) → (low == place) ≡ here → (low + 1 ≤ place → at_place (at_places frames (low + 1) count) place ≡ at_place frames place)
        → at_place (at_place frames low) place ++ at_place (at_places frames (low + 1) count) place ≡ at_place frames place
    of_test true known others =
        let is_low : low ≡ place = grind (arith, nat_tests, known) in
        ap₂ (λ (ones more : List Frame). ones ++ more) (ap (λ n. at_place (at_place frames n) place) is_low ∙ place_again frames place)
        (places_before frames (low + 1) count place (grind (arith, nat_tests, known)))
        ∙ append-nil (at_place frames place)
    of_test false known others =
        ap₂ (λ (ones more : List Frame). ones ++ more) (place_other frames low place known) (others (grind (arith, nat_tests, known, from)))

-- the frames at a place begin there
at_its_place : (frames : List Frame) (place : ℕ) → AllByRecursion (λ (frame : Frame). frame.from ≡ place) (at_place frames place)
at_its_place [] place = tt
at_its_place (frame ∷ frames) place = of_test (frame.from == place) refl (at_its_place frames place)
  where
    of_test : (here : Bool) → (frame.from == place) ≡ here → AllByRecursion (λ (one : Frame). one.from ≡ place) (at_place frames place)
        → AllByRecursion (λ (one : Frame). one.from ≡ place) (cond here (frame ∷ at_place frames place) (at_place frames place))
    of_test true known all = (grind (arith, nat_tests, known), all)
    of_test false known all = all

-- frames of a place and of places after it
prefix_up : (place high : ℕ) (ones others : List Frame) → AllByRecursion (λ (one : Frame). one.from ≡ place) ones → AllByRecursion (λ (other : Frame). (place < other.from) × (other.from < high)) others → AreUp others
    → place < high → AreUp (ones ++ others) × AllByRecursion (λ (one : Frame). (place ≤ one.from) × (one.from < high)) (ones ++ others)
prefix_up place high [] others here after up below = (up, weaker others after)
  where
    weaker : (frames : List Frame) → AllByRecursion (λ (other : Frame). (place < other.from) × (other.from < high)) frames → AllByRecursion (λ (other : Frame). (place ≤ other.from) × (other.from < high)) frames
    weaker [] all = tt
    weaker (frame ∷ frames) all = ((omega (arith, all.0.0), all.0.1), weaker frames all.1)
prefix_up place high (one ∷ ones) others here after up below =
    let rest = prefix_up place high ones others here.1 after up below in
    ((first_of (ones ++ others) rest.1, rest.0), ((omega (arith, here.0), omega (arith, here.0, below)), rest.1))
  where
    first_of : (frames : List Frame) → AllByRecursion (λ (other : Frame). (place ≤ other.from) × (other.from < high)) frames → AllByRecursion (λ (other : Frame). one.from ≤ other.from) frames
    first_of [] all = tt
    first_of (frame ∷ frames) all = (omega (arith, here.0, all.0.0), first_of frames all.1)

-- frames at places in a row begin there, no later than those after them
places_up : (frames : List Frame) (low count : ℕ) → AreUp (at_places frames low count) × AllByRecursion (λ (frame : Frame). (low ≤ frame.from) × (frame.from < low + count)) (at_places frames low count)
places_up frames low zero = (tt, tt)
places_up frames low (suc count) =
    let rest = places_up frames (low + 1) count in
    prefix_up low (low + suc count) (at_place frames low) (at_places frames (low + 1) count) (at_its_place frames low) (later (at_places frames (low + 1) count) rest.1) rest.0 (omega arith)
  where
    later : (others : List Frame) → AllByRecursion (λ (frame : Frame). (low + 1 ≤ frame.from) × (frame.from < low + 1 + count)) others → AllByRecursion (λ (frame : Frame). (low < frame.from) × (frame.from < low + suc count)) others
    later [] all = tt
    later (frame ∷ others) all = ((omega (arith, all.0.0), omega (arith, all.0.1)), later others all.1)

-- so the order of place is
pub places_are_in_order : PlacesAreInOrder
unfolding in_order_of_place
places_are_in_order most frames =
    let up = places_up frames 0 most in
    record {
      up = up.0;
      within = below (at_places frames 0 most) up.1;
      same = λ place within. places_same frames 0 most place (omega arith) (omega (arith, within));
    }
  where
    below : (others : List Frame) → AllByRecursion (λ (frame : Frame). (0 ≤ frame.from) × (frame.from < 0 + most)) others → AllByRecursion (λ (frame : Frame). frame.from < most) others
    below [] all = tt
    below (frame ∷ others) all = (omega (arith, all.0.1), below others all.1)
