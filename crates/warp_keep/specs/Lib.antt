pub mod Kept
pub mod Stamps
pub mod Keeping
pub mod Judging
