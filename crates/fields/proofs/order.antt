-- The order of the tests of the fields.
pub mod Order
