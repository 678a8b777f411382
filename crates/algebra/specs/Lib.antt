-- The definitions that the meaning of the bench is built from.
pub mod Ranges
pub mod Buffers
pub mod Tables
pub mod Groups
