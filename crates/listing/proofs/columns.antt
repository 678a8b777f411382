-- What a text leaves of its column.
pub mod Filling
