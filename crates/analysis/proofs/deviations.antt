-- The verdicts of the calls for deviations, test by test.
pub mod Refusing
