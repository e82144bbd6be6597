pub mod BitLaws
pub mod PaddingLaw
pub mod SinkLemmas
pub mod WholeBytes
pub mod Filling
pub mod Pushing
pub mod WordParts
