-- The laws of the first word that strays.
pub mod Refusing
