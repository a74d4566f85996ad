mod LinesBehind
mod Placing
mod Pushed
pub mod CellLines
pub mod StretchLemmas
pub mod ValueTexts
mod Joining
