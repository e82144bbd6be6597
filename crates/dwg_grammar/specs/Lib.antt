-- What a code is: which letters spell a value, and which of those spellings is written.
pub mod Grammar
-- Codes made of codes: each says what it spells of what its parts spell.
pub mod Combinators
-- Values one after the other, as many as there are letters for: another follows while so many letters are left as the shortest of them has.
pub mod ToEnd
-- The table of bit codes.
pub mod Codes
-- Modular chars and modular shorts over bytes: groups of value bits, the low group first, where the highest bit of a group says that another follows.
pub mod ModularCodes
-- What codes over bytes spell, said of all groups at once, and what numbers of whole bytes and texts over bits spell, said of all bytes at once.
pub mod PlainSpellings
-- Flags: bits of a number that are given by their weight.
pub mod Flags
-- References: what a reference is for and how its target is given, and the target.
pub mod Reference
-- References and own handles as bit codes.
pub mod ReferenceCodes
-- Points of the plane as bits.
pub mod Points
-- The references of a part of an object: what their bits spell, and which references those are.
pub mod References
-- What a body is: which main bits and which reference bits spell a value together.
pub mod Bodies
-- Bodies made of codes: each says what it spells of what its main bits and its references spell.
pub mod MakingBodies
-- What the versions of the format spell otherwise.
pub mod Versions
