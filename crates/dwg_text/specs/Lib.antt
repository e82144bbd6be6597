-- Lines of text, and what stands in them.
pub mod Lines
-- The notes that the program writes on standard error.
pub mod Notes
-- The text of a file's sections.
pub mod Sections
-- The text of a file's classes.
pub mod Classes
-- What is written of single values.
pub mod Values
-- What a writer and the sink below it do as a text is written to the writer.
pub mod Writing
-- Lists whose elements are written by their numbers.
pub mod Numbered
