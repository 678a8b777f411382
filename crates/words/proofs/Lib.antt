-- What is proved of words.
pub mod Bits
pub mod Members
pub mod Walk
pub mod Changing
pub mod Determined
