-- The laws of the row of object 0 in each pair table, as its differences give them.
pub mod Rows
