-- What a refusal hands back.
pub mod Zeros
