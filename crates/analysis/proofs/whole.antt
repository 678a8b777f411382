-- A job and its rooms, test by test.
pub mod Rooms
