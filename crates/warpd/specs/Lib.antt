pub mod Gathered
pub mod Outcome
