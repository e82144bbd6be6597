-- What a drill finds out: a drawing is made, its canonical file is read again and audited, and read once more with its middle byte changed.
pub mod Drilled
