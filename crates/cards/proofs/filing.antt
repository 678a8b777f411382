-- The laws of a card's file and its parts.
pub mod Parts
