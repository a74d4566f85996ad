pub mod World
pub mod Lines
pub mod Moves
pub mod Schedule
pub mod Replicas
pub mod Play
pub mod inner
