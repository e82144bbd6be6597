-- The references that an object holds beside that to its owner, in the order of the fields.
pub mod Slots
-- Who owns an object, and which entity is after another.
pub mod Owners
-- What the references of objects make of them: roots, claims, members of blocks, owner paths and chains.
pub mod Graph
-- When the references of a drawing hold together.
pub mod Sound
-- Where the object of a handle stands among objects whose handles ascend.
pub mod Places
-- Walks along a list of slots: a search for one by its place, or a gathering of all.
pub mod SlotWalks
-- What holds of the slots of objects.
pub mod SlotLaws
-- Owner paths and chains of members as lists of the objects themselves, and that they are those over handles.
pub mod ObjectPaths
-- Tests of the references of objects, which report whether what they stand for holds where handles ascend.
pub mod Tests
-- The references of objects as tables of places.
pub mod Placed
-- How many claims on an object, and how many of them by its owner, are those that are asked for.
pub mod Counts
-- How often objects are claimed, counted slot by slot.
pub mod Claimed
