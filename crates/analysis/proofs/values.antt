-- The verdicts of the calls for values, test by test, and how many ones a restraint set has.
pub mod Refusing
pub mod Ones
