pub mod Bounds
pub mod Lines
pub mod Frames
pub mod Web
pub mod Taking
pub mod Http
pub mod Wire
