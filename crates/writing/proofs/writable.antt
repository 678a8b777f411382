-- How long the slices of an accepted job are.
pub mod Slices
