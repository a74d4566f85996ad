pub mod Serving
pub mod Publishing
pub mod PublishedInTurn
pub mod SentEngines
pub mod DrainedLanes
pub mod VisitedLanes
