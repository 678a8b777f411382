-- The laws of names as they are shown.
pub mod Shown
