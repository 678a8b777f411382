-- That each promise determines its outcome, and what neighbours take of the counting.
pub mod Determined
pub mod Blocks
pub mod Slices
