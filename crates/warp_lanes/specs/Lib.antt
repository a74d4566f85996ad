pub mod Lanes
pub mod Publish
pub mod Engine
pub mod Codes
