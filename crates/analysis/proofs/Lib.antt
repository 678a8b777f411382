-- What is worked out from totals and words, and that it is the definitions' own; the published column; and that each promise determines its outcome.
pub mod Working
pub mod Accepting
pub mod Column
pub mod Determined
