-- What the promises and the private functions speak of, beside the definitions of the base.
pub mod Developed
pub mod Verdicts
