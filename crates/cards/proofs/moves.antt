-- The law of a bit that is added.
pub mod Bits
