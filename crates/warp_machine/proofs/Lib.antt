pub mod Joining
pub mod Keepings
pub mod KeptRooms
pub mod OperatorWords
