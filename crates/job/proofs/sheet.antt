-- A sheet against a file, by the verdict of reading it.
pub mod Checking
