-- A direct call on what a file holds.
pub mod Directly
