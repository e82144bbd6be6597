-- What runs, sets and an end keep of frames: their bytes, their handles, the numbers of their pairs, and where the last ends. A rule of this project.
use Rattle.std.specs.Prelude.{◌≡◌, ℕ, List, nat_le, ◌==◌}
use Rattle.std.specs.List.{list_any}
use Rattle.std.specs.Ordering.{nat_cmp}
use Rattle.std.specs.BTreeSet as set
use Rattle.dwg_file.specs.ByteRanges.{Run, shares}
use Rattle.dwg_recover.specs.declared.frame.Frame.{Frame}
use Rattle.dwg_recover.specs.Frames.{follows, is_kept_pair, overlaps}

-- the runs are the bytes of the frames, the sets their handles and the numbers of their pairs, and none ends after the end
pub record AreNoted (frames : List Frame) (taken : List Run) (handles pairs : set.BTreeSet ℕ) (end : ℕ) : Type 0 where
  pub bytes : (from to : ℕ) → shares taken from to ≡ list_any (overlaps from to) frames
  pub own : (handle : ℕ) → set.contains nat_cmp handles handle ≡ list_any (λ (frame : Frame). frame.handle == handle) frames
  pub numbers : (number : ℕ) → set.contains nat_cmp pairs number ≡ is_kept_pair frames number
  pub ends : (place : ℕ) → nat_le end place ≡ follows frames place
