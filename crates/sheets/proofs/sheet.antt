-- The laws of a text that is read line after line.
pub mod Lines
