-- The sizes of groups, counted object by object.
pub mod Sizes
