-- The standard uncertainty of an accepted job's object.
pub mod Stating
