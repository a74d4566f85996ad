pub mod Stack
pub mod History
pub mod Aside
pub mod Tip
pub mod Skips
pub mod Walk
pub mod Warp
