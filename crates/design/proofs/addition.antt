-- What the proofs of the functions stand on.
pub mod Cards
pub mod Negatives
