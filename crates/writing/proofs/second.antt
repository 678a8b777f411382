-- What the verdict of writing the second edition says.
pub mod Verdicts
