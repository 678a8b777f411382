-- The laws of reading a card word by word.
pub mod Turning
