-- What the pairs by which an unbalanced design is told are.
pub mod Pairs
