-- The laws of digits in base 16.
pub mod Digits
