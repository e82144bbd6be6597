-- What is recovered of an input: its drawing, its refusal, its losses and the frames that are kept, where it spells a drawing and where it is damaged.
pub mod Recovering
-- What recovery answers, as a plain value.
pub mod Results
-- What holds of every answer of recovery: its frames stand in the input and share nothing, and its objects are those of its frames; and what it is where the input spells a drawing, and where it is damaged.
pub mod Reported
-- Which losses are reported of a damaged input: each of what is lost, and no other.
pub mod ReportedLosses
-- What is asked of an input so that the intact objects of a drawing are recovered of it: its header and its map are those of the drawing's canonical file, and each frame either is that file's or doesn't hold.
pub mod Intact
-- Canonical files in which one byte, or two neighbouring ones, of one object's frame are changed: that object alone is lost.
pub mod ShortDamage
-- What holds of what is recovered of a damaged input: its pairs are few, its frames share nothing, and its parts are read of it.
pub mod RecoveredLaws
-- The parts that recovery finds are those that stand in the input: its file header, whole sections, the walk over its map, and the pairs of a page.
pub mod FoundParts
-- A section that is found is whole where it is found: it is that of its locator or the first whole one, and none is found only where none is whole.
pub mod FoundSections
-- What is found is what stands: the candidates are those of the pairs, a pair has one exactly where a frame with its handle stands at its place, and the scan finds a frame exactly where one is read with its common part.
pub mod FoundFrames
-- Which frames are kept, said of each by itself, that no others are, and what the frames that are kept and their objects are: found in the input, without a byte or a handle in common.
pub mod KeptFrames
-- The order of place: each frame begins no later than those after it, and those of one place are what they were.
pub mod OrderOfPlace
-- Where the header variables and the classes are found: at the place of their locator, or else where the first whole section stands.
pub mod Sections
-- The walk over the pages of the map, past those whose check word is wrong; the pairs and the losses of its pages; and that there is one walk.
pub mod Walks
-- Which frames are kept: those that the pairs of the map name, and then those that stand elsewhere.
pub mod Frames
-- What recovery finds of an input beside its frames.
pub mod Finding
-- Frames lie in the input, and were found there.
pub mod Placing
-- The frames of a map of which none is lost, each kept for its pair.
pub mod MapFrames
-- The objects of the frames that are kept, and what the scan reports of a place.
pub mod KeptObjects
-- What runs, sets and an end keep of frames: their bytes, their handles, the numbers of their pairs, and where the last ends.
pub mod Keeping
-- A member of a list, whatever it lists, and where it stands there.
pub mod ListMembers
