-- What the second edition's fields answer, test by test.
pub mod Answers
