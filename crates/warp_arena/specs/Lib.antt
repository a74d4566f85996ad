pub mod Places
pub mod Laws
pub mod Shape
pub mod Changes
