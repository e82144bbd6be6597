-- The check word of sections, map pages and object frames, bit by bit.
pub mod CheckWord
-- What holds of every check word: its range, runs that are joined, and words that are xored.
pub mod CheckWordLaws
-- The check words of the prefixes of a run of bytes, and of its spans (a rule of this project).
pub mod Spans
-- A change of one byte, or of two neighbouring ones, changes a check word; so bytes that carry their check word never differ so.
pub mod ShortDamage
