-- The laws of a reading's bytes as the code puts them.
pub mod Numbers
