pub mod Seats
pub mod Text
