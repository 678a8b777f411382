-- The laws of decimal numbers, and what determines the outcome of each public function.
pub mod Digits
pub mod Signed
pub mod Tenths
