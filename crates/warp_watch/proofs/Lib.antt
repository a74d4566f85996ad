pub mod Shownness
pub mod Tellings
pub mod TextLines
