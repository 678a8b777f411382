-- What a direct call leaves in the rooms is what the file makes.
pub mod Rooms
