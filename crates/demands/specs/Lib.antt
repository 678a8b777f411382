-- What the customer signs: the demands and the requests in their words, each a record with a field for each clause. Job, Refusals, Outcomes, Fractions and
-- Papers say what the words mean, and stand before the demands that use them.
pub mod Job
pub mod Refusals
pub mod Outcomes
pub mod Demand1
pub mod Calls
pub mod Fractions
pub mod Papers
pub mod Demand2
pub mod Answers
pub mod Demand3
pub mod Uncertainty
pub mod Certificate
pub mod Writing
pub mod Fields
pub mod Edition2
pub mod SecondCalls
pub mod Days
pub mod Sheet
pub mod Practice
pub mod Pooled
pub mod Groups
pub mod Cards
pub mod Differences
