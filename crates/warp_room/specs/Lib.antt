pub mod Queues
pub mod Gate
pub mod Room
pub mod Steps
pub mod Own
pub mod Codes
pub mod Digested
pub mod Looks
