pub mod Limits
pub mod Lists
pub mod Moment
pub mod Landing
pub mod Table
pub mod Codes
