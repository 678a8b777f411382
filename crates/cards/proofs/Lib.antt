-- The laws of this room, and that each promise determines its outcome.
pub mod Choices
pub mod Determined
pub mod Giving
pub mod Going
pub mod Keeping
pub mod Walking
