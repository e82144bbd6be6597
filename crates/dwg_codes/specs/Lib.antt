-- Lists of bytes in hand: owned, or lent from a slice.
pub mod Parts
