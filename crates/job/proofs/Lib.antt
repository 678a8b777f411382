-- What a direct call is handed of a file, and that each promise determines its outcome.
pub mod Holding
pub mod Determined
