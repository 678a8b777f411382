-- The laws of lines one after the other, and what determines the outcome of each public function.
pub mod Each
pub mod Determined
