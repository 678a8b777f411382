-- The laws of numbers in digits, and words that are numbers.
pub mod Digits
pub mod Words
