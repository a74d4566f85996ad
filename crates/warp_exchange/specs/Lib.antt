pub mod Batch
pub mod Pulls
