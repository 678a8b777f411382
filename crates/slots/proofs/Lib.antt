-- What the number that a call hands back tells, and what the promises rule out.
pub mod Numbered
pub mod Indexed
pub mod Determined
