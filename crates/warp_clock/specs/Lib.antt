pub mod Clock
pub mod Closing
