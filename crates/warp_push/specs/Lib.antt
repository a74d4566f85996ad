pub mod Marks
pub mod Noted
pub mod Pages
pub mod Pushings
pub mod Seats
pub mod Texts
pub mod Stretches
pub mod Watching
