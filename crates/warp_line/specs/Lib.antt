pub mod Timeline
pub mod Rework
pub mod Plain
pub mod inner
pub mod Begin
