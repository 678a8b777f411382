-- The laws of a row of signed numbers, which the reading of a file cites, and that each promise determines its outcome.
pub mod Rows
pub mod Determined
