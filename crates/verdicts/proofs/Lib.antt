-- A verdict told by its test, the answer of a sum of squares under its verdict, and that each promise determines its outcome.
pub mod Told
pub mod Sums
pub mod Determined
