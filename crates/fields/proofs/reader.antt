-- What the functions over a reader promise.
pub mod Promises
