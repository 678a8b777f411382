-- What the counts of a head are, within the sizes; what a lent card gives; the differences of a design, counted.
pub mod Within
pub mod Addition
pub mod Differences
