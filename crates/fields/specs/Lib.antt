-- What stands in the fields of a file.
pub mod Contents
