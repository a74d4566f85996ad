pub mod Stream
pub mod Session
pub mod LocalSession
pub mod PortDesk
pub mod Pull
pub mod Serve
pub mod Told
pub mod inner
