-- The exact range of a quotient, the floats and the examples of it, numbers of two words, the range of a spread, and that each promise determines its
-- outcome.
pub mod Exact
pub mod Floats
pub mod Words
pub mod Division
pub mod Spreads
pub mod Uncertainties
pub mod Examples
pub mod Determined
