-- What a fraction is published as, and what the spread is, on every input.
pub mod Quotient
pub mod Hundredths
pub mod Uncertainties
pub mod Division
