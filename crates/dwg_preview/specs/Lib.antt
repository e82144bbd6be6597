-- Preview sections: what one is, and the content of one that stands elsewhere.
pub mod Previews
-- The content of the section at a place, as a function.
pub mod ContentAt
-- What holds of preview sections: an input has one at the most at a place, and what is moved is one.
pub mod PreviewLaws
