-- Controls that name the entries of their table and nothing else.
pub mod Entries
-- Controls that name two objects after the entries of their table.
pub mod EntriesAndTwo
-- What becomes of an object of a name that is there already when dictionaries are merged.
pub mod Cloning
-- Dictionaries: names of objects.
pub mod Dictionaries
-- Records: bytes of an application, and objects that they name.
pub mod XRecords
-- Controls, dictionaries and records meet the laws of bodies.
pub mod DictLaws
