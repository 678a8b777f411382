-- What the lines and the text are, from what was worked out.
pub mod Sheet
pub mod Certified
