pub mod Listening
pub mod Seats
