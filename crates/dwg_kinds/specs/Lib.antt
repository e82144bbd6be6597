-- Kinds of objects: a row for each, with its number, its name, whether it is one of entities and what must own an object of it; and which one a type number stands for.
pub mod Kinds
-- The references that an object holds: their names, which kinds hold each, and what it must lead to.
pub mod Needs
