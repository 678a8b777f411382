-- What a text leaves in lent room, and that each promise determines its outcome.
pub mod Room
pub mod Determined
