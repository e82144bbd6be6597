-- What the contracts of the library for C cite.

pub mod Answers
pub mod Buffers
