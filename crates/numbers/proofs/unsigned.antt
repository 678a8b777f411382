-- The laws of numbers in bytes: past the end, and in two parts.
pub mod Bytes
pub mod Parts
