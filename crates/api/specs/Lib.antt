-- What the calls from C take, and what those that write into lent rooms leave there.
pub mod Heads
pub mod Rooms
pub mod Jobs
pub mod Files
pub mod Second
pub mod Groups
pub mod Sheets
pub mod Practising
pub mod Cards
