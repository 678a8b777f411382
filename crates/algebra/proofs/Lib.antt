-- The laws of whole numbers, of ranges and of buffers that the other crates' proofs stand on.
pub mod Tests
pub mod Searching
pub mod Ring
pub mod Solver
pub mod Order
pub mod Sums
pub mod Bounds
pub mod Numbers
pub mod Signs
pub mod Filling
pub mod Writing
pub mod Groups
pub mod Examples
