pub mod Runs
pub mod FewBits
