-- What a drawing says, as a plain value, whoever holds its bytes.
pub mod Contents
-- What a drawing borrows of the input that it was read from.
pub mod Borrowed
-- What an input spells: the drawing that its parts, each at its place, say.
pub mod Spelled
-- The lines of the table of refusals over a whole file, in their order.
pub mod FileLines
-- The canonical file of a drawing: its parts one after the other without gaps.
pub mod Canonical
-- Which drawings are valid: those that can be written and read again.
pub mod Valid
-- What is read of an input in which no line fails: its parts, by their places.
pub mod ReadAs
-- The bytes that frames took so far, as runs.
pub mod ByteRanges
-- The frames of objects as they are reported with the drawing that is read.
pub mod ObjectFrames
-- What the steps of reading frames do to what is left to try.
pub mod FrameReading
-- How the header variables, the classes and the map of an input with a header are refused, each by the first thing in it that fails.
pub mod PartRefusals
-- Which pair of a map is the first whose frame fails a line, said without going along the map.
pub mod FrameRefusals
-- Which unknown section of a file is the first that passes its end.
pub mod SectionRefusals
-- Unknown sections of an input, and when two of them differ.
pub mod SectionNumbers
-- Objects that are read of a body of an input.
pub mod ObjectSize
-- What is read of an input makes a valid drawing.
pub mod ValidLaws
-- Objects put in order of handle.
pub mod SortedObjects
-- The drawing that is read of an input, as a function of its bytes.
pub mod DrawingAt
-- Frames of objects that stand one after the other from a place on.
pub mod CanonicalFrames
-- The canonical file of a valid drawing that isn't too large spells it, has the size that is counted, and is bytes.
pub mod CanonicalLaws
-- Which bytes of the canonical file of a drawing an input has.
pub mod CanonicalBytes
-- Canonical files in which one byte, or two neighbouring ones, of one object's frame are changed: they are refused at that object.
pub mod ShortDamage
-- What a drawing needs to be written: where its parts stand, and room for one of them.
pub mod Plans
-- Bytes on their way to a sink, of which some wait to go out together.
pub mod WriteBuffer
