use Rattle.dwg_recover.proofs.ScanKeeping.{scan_keeps_exactly}
use Rattle.dwg_recover.proofs.FoundFrames.{candidates_hold, scanned_are_read}
use Rattle.dwg_recover.proofs.MapKeeping.{map_keeps_exactly}
use Rattle.dwg_recover.proofs.KeptMembers.{no_others_are_kept, objects_are_of_frames}
use Rattle.dwg_recover.proofs.OrderOfPlace.{places_are_in_order}
use Rattle.dwg_recover.proofs.RecoveredLaws.{frames_are_kept, pairs_read_few, parts_are_read}
use Rattle.dwg_recover.proofs.FoundSections.{sections_are_first}
use Rattle.dwg_recover.proofs.WalkStanding.{walk_once, walk_stands}
use Rattle.dwg_recover.proofs.laws.recovered_laws.Goals as goal

pub returns-clause-walk : goal.returns-clause-walk
returns-clause-walk c = walk_stands c.page_laws.ensures.size

pub returns-clause-one_walk : goal.returns-clause-one_walk
returns-clause-one_walk c = walk_once

pub returns-clause-few : goal.returns-clause-few
returns-clause-few c = pairs_read_few c.page_laws.ensures.size

pub returns-clause-mapped : goal.returns-clause-mapped
returns-clause-mapped c = map_keeps_exactly

pub returns-clause-scanned : goal.returns-clause-scanned
returns-clause-scanned c = scan_keeps_exactly

pub returns-clause-kept : goal.returns-clause-kept
returns-clause-kept c = frames_are_kept

pub returns-clause-parts : goal.returns-clause-parts
returns-clause-parts c =
    parts_are_read c.file_header_laws.ensures.sound c.drawing_laws.ensures.whole (λ place content classes tried. (c.classes_laws.ensures.read place content classes).0 tried)

pub returns-clause-members : goal.returns-clause-members
returns-clause-members c = no_others_are_kept

pub returns-clause-objects : goal.returns-clause-objects
returns-clause-objects c = objects_are_of_frames

pub returns-clause-candidates : goal.returns-clause-candidates
returns-clause-candidates c = candidates_hold c.frame_laws.ensures.held

pub returns-clause-read : goal.returns-clause-read
returns-clause-read c = scanned_are_read c.frame_laws.ensures.frames

pub returns-clause-sections : goal.returns-clause-sections
returns-clause-sections c = sections_are_first

pub returns-clause-order : goal.returns-clause-order
returns-clause-order c = places_are_in_order
