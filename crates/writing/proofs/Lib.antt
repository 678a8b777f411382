-- What a verdict says of the answer, what determines the outcome of the public function, and a reading's bits.
pub mod Answers
pub mod Determined
pub mod Shortened
