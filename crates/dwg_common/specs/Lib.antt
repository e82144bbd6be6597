-- What a reader of a part did.
pub mod Parsing
-- Members of a list of which the main bits give one part each and the references name another.
pub mod Members
-- The application data of an object, which stand in its main bits.
pub mod AppList
-- What was skipped.
pub mod Skipping
-- How the bits of a part are laid out.
pub mod Layouts
-- The picture of an entity.
pub mod Pictures
-- The bit size among the main bits of a common part.
pub mod BitSizes
-- What all entities have.
pub mod Entities
-- What a reader of entities has read, as the parts that the grammar gives.
pub mod EntityReading
-- What all objects have that are no entities.
pub mod NonEntities
-- Sets of laws on codes, parts of the references and bodies.
pub mod LawSets
-- Application data are a code.
pub mod AppListLaws
-- The common parts meet the laws of bodies.
pub mod CommonLaws
