-- What the first difference is, what the answer follows from, and that each promise determines its outcome.
pub mod Sheets
pub mod Determined
