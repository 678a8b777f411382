-- The laws of a name, byte by byte.
pub mod Escapes
