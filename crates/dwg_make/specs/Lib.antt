-- The random numbers of a made drawing.
pub mod Random
-- What the objects of a made drawing have in common.
pub mod Parts
-- The objects that every made drawing has: controls, table entries, both spaces, a block with an attribute definition, and an insert of it.
pub mod Fixed
-- What the random numbers of one entity give.
pub mod Draws
-- The entities of a made drawing that follow its fixed objects, drawn by random numbers.
pub mod RandomEntities
-- The drawing that two numbers make: how many entities follow its fixed objects, and the seed of the random numbers.
pub mod Made
