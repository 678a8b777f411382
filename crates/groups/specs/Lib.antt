-- The words of blocks, and what the test of two tables speaks of, beside the definitions of the request.
pub mod Words
pub mod Tables
pub mod Base
