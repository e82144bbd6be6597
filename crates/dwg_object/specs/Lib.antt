-- What the kinds of objects have of their own after their common part.
pub mod OwnBodies
-- Objects, whoever holds their bits and bytes.
pub mod Objects
-- The head of an object: where it ends, its own handle, and that bits begin with one at the most.
pub mod Heads
-- The forms in which the body of an object is read.
pub mod Forms
-- How objects are written, and which of them can be written and read again.
pub mod Written
-- Frames of objects: a length, a body, a check word.
pub mod Frames
-- The lines of the table of refusals on the frame of a pair.
pub mod FrameLines
-- What the tried frame of a place means: the span or the frame that stands there, or why there is none.
pub mod FrameCauses
-- What a call that reads a frame answers.
pub mod FoundFrames
-- The span that is tried at a place is the one that stands there.
pub mod SpanLaws
-- The frame that is tried at a place is the one that stands there, and there is one at the most.
pub mod FrameLaws
-- What a kind has of its own is a body, and is of that kind.
pub mod OwnLaws
-- A kind's own bits and own references: when they are wholly what it has of its own, but for fewer than eight bits.
pub mod OwnBits
-- Forms: a body is read as at most one object, and an object that is written is read as itself.
pub mod FormLaws
