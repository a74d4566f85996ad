pub mod Spelling
pub mod Board
pub mod Notes
pub mod Rule
pub mod Steps
