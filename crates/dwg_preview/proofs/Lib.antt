pub mod Entries
pub mod Contents
pub mod PreviewParts
pub mod ContentFound
pub mod Moving
pub mod PreviewWriting
