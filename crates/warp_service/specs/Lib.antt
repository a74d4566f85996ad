pub mod Lengths
pub mod Contact
pub mod Timers
pub mod News
pub mod Peers
pub mod Comparing
