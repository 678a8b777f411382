-- How large a place is, and how it is moved.
pub mod Places
