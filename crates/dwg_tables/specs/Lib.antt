-- What every entry of a table begins with.
pub mod Entries
-- The name of an application.
pub mod AppIdBody
-- A layer.
pub mod LayerBody
-- A text style.
pub mod StyleBody
-- A linetype.
pub mod LtypeBody
-- The counts of the marks of the inserts of a block.
pub mod InsertMarks
-- The counts of marks are a code.
pub mod InsertMarkLaws
-- The header of a block.
pub mod BlockHeaderBody
-- What the readers of entries have read, as the parts that the grammar gives.
pub mod TableReading
-- The entries of tables meet the laws of bodies.
pub mod TableLaws
-- The header of a block meets the laws of bodies.
pub mod BlockHeaderLaws
