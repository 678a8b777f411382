-- Laws of the lines of optional fields.
pub mod Parts
