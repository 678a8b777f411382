-- What a call from C returns, what laying slots leaves, which slots an answer has, and how each answer is handed over by them.
pub mod Told
pub mod Laid
pub mod Slots
pub mod Answers
pub mod Groups
pub mod Sheets
pub mod Pools
