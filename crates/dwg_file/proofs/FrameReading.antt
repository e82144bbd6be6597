-- The frames that were read so far, and what is left to try, give the whole.
use Rattle.std.specs.Prelude.{◌≡◌, ℕ, List, [], take, drop}
use Rattle.dwg_classes.specs.declared.class.Class.{Class}
use Rattle.dwg_objmap.specs.declared.pair.Pair.{Pair}
use Rattle.dwg_objmap.specs.Pages.{handles_of}
use Rattle.dwg_file.specs.declared.frames.Frames.{Frames}
use Rattle.dwg_file.specs.FileLines.{FoundFrame, frames_after}
use Rattle.dwg_file.specs.FrameReading.{HasRead}

-- the frames of so many pairs were read, and what is left gives the whole
pub record IsAlong (classes : List Class) (bytes : List ℕ) (pairs : List Pair) (index : ℕ) (read : Frames) : Type 0 where
  pub earlier : List FoundFrame
  pub has_read : HasRead classes bytes earlier (handles_of (take index pairs)) read
  pub left : frames_after bytes index earlier (drop index pairs) ≡ frames_after bytes 0 [] pairs
