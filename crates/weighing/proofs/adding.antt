-- The laws of a reading that is added to the objects of a word.
pub mod Objects
