-- What is counted in words, and what the test of two tables speaks of, beside the definitions of the base.
pub mod Meetings
pub mod Tables
