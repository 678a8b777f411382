-- The words of the members of an object, and of a side.
pub mod Members
