-- How far the places of a file reach, and that each promise determines its outcome.
pub mod Bounds
pub mod Starts
pub mod Determined
pub mod ReaderDetermined
