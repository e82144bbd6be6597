pub mod PartsReading
pub mod ReferenceReading
pub mod ListFitting
pub mod OwnReading
pub mod PartsWriting
