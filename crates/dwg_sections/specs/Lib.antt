-- The file header: what it spells.
pub mod FileHeader
-- The lines of the table of refusals on the file header, and the parts of a header by their places.
pub mod HeaderLines
-- The first locator of a number in a list of locators.
pub mod FirstLocator
-- Laws of the file header: what the input begins with, and what the lines on the header say, are one.
pub mod HeaderLaws
-- Framed sections: the header variables and the classes.
pub mod Framed
-- The lines of the table of refusals on a framed section at a place.
pub mod FramedLines
-- Which line on a framed section at a place is the first that fails.
pub mod FramedRefusals
-- Laws of framed sections: what stands at a place, and what the lines on a section there say, are one.
pub mod FramedLaws
-- Bytes that are appended to a sink of bits.
pub mod Writing
