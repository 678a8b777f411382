-- The verdict on a file of the second edition, test by test, and how large its places are.
pub mod Fields
pub mod Nearness
