pub mod Verdicts
pub mod CheckWords
