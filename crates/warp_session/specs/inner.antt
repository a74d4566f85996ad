pub mod Turns
pub mod Inbox
pub mod Pulling
pub mod Room
pub mod Fetched
