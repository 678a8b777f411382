-- The laws of the answer of a card.
pub mod Answers
