pub mod Number
pub mod Record
pub mod Order
pub mod Line
pub mod Lines
pub mod Reply
pub mod Codes
pub mod inner
