-- What a word says of the objects of a side, and a change of their entries.
pub mod Bits
pub mod Changing
