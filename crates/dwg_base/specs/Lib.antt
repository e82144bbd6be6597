-- Lists of bytes.
pub mod Bytes
-- What a call does to a device: to its count of faults, to the bytes that it still gives, and to those that it took.
pub mod Devices
-- Devices in memory: what they hold, and what one call does.
pub mod Memory
-- A refusal as contracts see it: line, index and place.
pub mod Refusal
-- Why an input is refused: the first failing line of the table of refusals, with its place.
pub mod Refusals
-- The first item of a number in a list whose items have numbers.
pub mod FirstItem
-- The versions of the format.
pub mod Versions
