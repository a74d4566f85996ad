pub mod Journal
pub mod Keeping
pub mod Pieces
pub mod Reading
