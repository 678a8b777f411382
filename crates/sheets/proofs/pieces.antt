-- The laws of a text that is cut.
pub mod Cuts
