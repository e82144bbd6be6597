pub mod CornerWords
pub mod CornerReading
