pub mod Reading
pub mod Drills
