-- Bits of bytes and of numbers: the most significant bit of a byte stands first.
pub mod Bits
-- What holds of bits: the bits of numbers, of bytes and of parts of them, and the numbers that they spell.
pub mod BitLaws
-- Parts of a list of bytes from any bit to any bit, and what is left for a cursor.
pub mod Cursor
-- How bytes hold a list of bits that grows: the bits, and zero bits up to a whole byte.
pub mod Filled
-- Lists of bits in hand: owned, or lent from a slice of bytes.
pub mod Parts
-- What a sink of bits holds, and how it grows.
pub mod Sink
-- What padding does to a list of bits.
pub mod PaddingLaw
-- The bytes of a list of bits, eight bits a byte.
pub mod WholeBytes
