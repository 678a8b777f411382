-- What was worked out gives the text of the file.
pub mod Worked
