-- The laws of a claimed spread.
pub mod Spreads
