-- The laws of a number's bytes as the code puts them, and what determines the outcome of each public function.
pub mod Numbers
