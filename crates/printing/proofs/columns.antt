-- The law of a number with a sign in counts.
pub mod Counts
