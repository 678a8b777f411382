-- Tests for room that come last, what the number 0 tells, and what the promises rule out.
pub mod Slots
pub mod Zero
pub mod Pooling
pub mod Grouping
pub mod Determined
