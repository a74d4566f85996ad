-- What follows the code, and no public contract cites.
pub mod Again
pub mod Front
pub mod Flagged
pub mod Marks
pub mod Plan
pub mod Room
pub mod Due
pub mod TriggeredTurn
pub mod World
pub mod Taken
