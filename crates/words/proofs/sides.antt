-- What is proved of two objects in words.
mod Masks
