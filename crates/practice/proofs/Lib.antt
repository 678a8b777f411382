-- What is drawn, and what is answered, is the definitions' own; and each promise determines its outcome.
pub mod Drawing
pub mod Answers
pub mod Determined
