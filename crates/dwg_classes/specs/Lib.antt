-- Classes: what one spells, and what the content of the classes section is cut into.
pub mod Class
-- The lines of the table of refusals on classes, tried class by class.
pub mod ClassLines
-- Classes that are written: which classes can be, and the bits that are written of them, padded to whole bytes.
pub mod WrittenClasses
-- The first class of a number in a list of classes.
pub mod FirstClass
-- What the classes of a drawing say of a type number: the first class with it decides.
pub mod Hints
-- A map from type numbers to what the first class of each says.
pub mod Firsts
