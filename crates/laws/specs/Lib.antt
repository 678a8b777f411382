-- What private functions may ask of a head, and of the numbers that follow from a job.
pub mod Fits
pub mod Limits
pub mod Differences
