-- The laws of totals over words, of the words of a sound design, of the verdicts, and of sums of squares; and that each promise determines its outcome.
pub mod Developing
pub mod Refusing
pub mod Slices
pub mod SquareSums
pub mod Determined
