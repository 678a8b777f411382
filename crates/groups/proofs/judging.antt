-- The tests of two tables, and what they say of the blocks.
pub mod Tables
