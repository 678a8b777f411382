-- The words of a list of blocks.
pub mod Words
