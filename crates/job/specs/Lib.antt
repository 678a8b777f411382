-- What the private functions promise beyond the definitions of the bench.
pub mod Direct
pub mod Taking
