-- The verdicts of the moves, test by test.
pub mod Putting
