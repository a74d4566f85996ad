pub mod Clients
mod ServedLines
mod KeptLogs
pub mod Runs
mod Parts
pub mod OpenLines
mod Pieces
mod ShownBefore
mod Serving
mod Bounds
mod Waiting
mod CallSteps
mod Hearing
mod Digests
pub mod Older
mod KeptReleases
mod NothingKept
mod OwnLines
