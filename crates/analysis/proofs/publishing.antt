-- What a member of the restraint set is given.
pub mod Serving
