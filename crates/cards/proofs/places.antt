-- The laws of lines and columns.
pub mod Turns
