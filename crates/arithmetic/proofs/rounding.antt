-- The law of a sign that goes around a rounding.
pub mod Signed
