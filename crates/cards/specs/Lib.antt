-- Definitions that only this room's promises need.
pub mod Filing
pub mod Moves
pub mod Names
pub mod Printed
pub mod Putting
pub mod Sizes
pub mod Walking
