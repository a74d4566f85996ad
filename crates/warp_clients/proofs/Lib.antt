mod InPlaces
mod Entries
mod One
mod ToldTales
pub mod Moving
mod Stepping
mod Entered
mod Cuts
mod At
mod OwnSteps
mod SentEnds
