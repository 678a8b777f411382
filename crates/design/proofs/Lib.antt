-- What a head within the sizes counts, and that each promise determines its outcome.
pub mod Within
pub mod Determined
