-- What is handed on of a file is what its card shows.
pub mod Whole
