-- The order of place: each frame begins no later than those after it, and those of one place are what they were. A rule of this project.
use Rattle.std.specs.Prelude.{◌≡◌, ⊤, ℕ, ◌<◌, ◌≤◌, ◌==◌, List, [], ◌∷◌}
use Rattle.std.specs.List.{AllByRecursion, filter}
use Rattle.dwg_recover.specs.declared.frame.Frame.{Frame}
use Rattle.dwg_recover.specs.Frames.{in_order_of_place}

-- the frames at a place
abbrev pub at_place : List Frame → ℕ → List Frame
at_place frames place = filter (λ (frame : Frame). frame.from == place) frames

-- each frame begins no later than those after it
abbrev pub AreUp : List Frame → Type 0
AreUp [] = ⊤
AreUp (frame ∷ frames) = AllByRecursion (λ (after : Frame). frame.from ≤ after.from) frames × AreUp frames

-- frames in order of place begin before the place most and no later than those after them, and the frames at a place are those that were there, in their order
pub record AreInOrder (most : ℕ) (frames : List Frame) : Type 0 where
  pub up : AreUp (in_order_of_place most frames)
  pub within : AllByRecursion (λ (frame : Frame). frame.from < most) (in_order_of_place most frames)
  pub same : (place : ℕ) → place < most → at_place (in_order_of_place most frames) place ≡ at_place frames place

-- and so are any frames when they are put into that order
abbrev pub PlacesAreInOrder : Type 0
PlacesAreInOrder = (most : ℕ) (frames : List Frame) → AreInOrder most frames
