-- The restraint, test by test, and that each promise determines its outcome.
pub mod Restrained
pub mod Determined
