-- What is kept is nothing else: each frame is that of a pair or one that the scan found, and the objects are those of the frames.
use Rattle.std.proofs.Common.{List, [], ◌∷◌}
use Rattle.std.specs.List.{AllByRecursion}
use Rattle.dwg_recover.specs.declared.frame.Frame.{Frame}
use Rattle.dwg_recover.proofs.ScanKeeping.{scan_adds}
use Rattle.dwg_recover.specs.Frames.{mapped_frames}
use Rattle.dwg_recover.proofs.MapKeeping.{mapped_are_candidates}
use Rattle.dwg_recover.specs.Placing.{IsFound}
use Rattle.dwg_recover.specs.KeptFrames.{IsRead, NoOthersAreKept, ObjectsAreOfFrames}
use Rattle.dwg_recover.proofs.KeptObjects.{found_is_read, same_objects, objects_counted}
use Rattle.dwg_recover.proofs.RecoveredLaws.{frames_are_kept}
use Rattle.dwg_recover.specs.Recovering.{classes_found, drawing_recovered, frames_kept, frames_mapped, pairs_read}

-- so it is
pub no_others_are_kept : NoOthersAreKept
unfolding frames_kept frames_mapped
no_others_are_kept bytes frame =
    (mapped_are_candidates bytes (pairs_read bytes) frame, scan_adds (classes_found bytes) bytes (mapped_frames bytes (pairs_read bytes)) frame)

-- so they are
pub objects_are_of_frames : ObjectsAreOfFrames
unfolding drawing_recovered
objects_are_of_frames bytes = record {
  read = all_read (frames_kept bytes) (frames_are_kept bytes).found;
  same = same_objects (classes_found bytes) bytes (frames_kept bytes);
  count = objects_counted (classes_found bytes) bytes (frames_kept bytes);
}
  where
    all_read : (frames : List Frame) → AllByRecursion (IsFound bytes) frames → AllByRecursion (IsRead (classes_found bytes) bytes) frames
    all_read [] found = tt
    all_read (frame ∷ frames) found = (found_is_read (classes_found bytes) bytes frame found.0, all_read frames found.1)
