pub mod ItemReading
pub mod ItemFitting
pub mod EndReading
