-- A grammar that is, in each of its parts, the one that a definition gives.
pub mod AsDefined
