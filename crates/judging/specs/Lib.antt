-- What the judgement of a job is.
pub mod Judgement
