-- The frames of a map of which none is lost, each kept for its pair. A rule of this project.
use Rattle.std.specs.Prelude.{ℕ, ◌+◌, List, [], ◌∷◌, Some}
use Rattle.dwg_file.specs.declared.frames.ObjectFrame.{ObjectFrame}
use Rattle.dwg_recover.specs.declared.frame.Frame.{Frame}

-- the frame of the pair that has this number
abbrev pub numbered : ℕ → ObjectFrame → Frame
numbered number frame = record { pair = Some number; handle = frame.handle; from = frame.from; end = frame.end }

-- the frames of pairs, in map order; the first pair has this number
abbrev pub all_numbered : ℕ → List ObjectFrame → List Frame
all_numbered number [] = []
all_numbered number (frame ∷ frames) = numbered number frame ∷ all_numbered (number + 1) frames
