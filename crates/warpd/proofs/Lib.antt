pub mod Endings
pub mod Traces
