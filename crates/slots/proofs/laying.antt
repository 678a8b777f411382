-- What laying slots rests on.
pub mod Laying
