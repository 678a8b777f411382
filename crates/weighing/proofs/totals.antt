-- The laws of the verdicts of totals.
pub mod Refusing
