-- What is worked out from totals and words, and the published column.
pub mod Worked
pub mod Column
