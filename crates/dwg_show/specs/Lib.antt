-- Fields as they are printed: each on a line of two spaces, its path, a space and its value.
pub mod Fields
-- The fields of the common parts of objects, in the order of their structs.
pub mod CommonFields
-- The fields of the bodies of all kinds, in the order of their structs.
pub mod BodyFields
-- Objects of which few enough own bits are kept to be counted and padded.
pub mod FewBits
-- The text of an object.
pub mod ObjectText
-- The text of a drawing.
pub mod DrawingText
