pub mod GoingOn
pub mod Kept
pub mod Lines
pub mod Seconds
pub mod Signs
pub mod Pieces
pub mod Whole
pub mod Ends
