-- The laws of meetings counted in words, and of the words of a design.
pub mod Adding
pub mod Countable
pub mod Counted
pub mod Developed
