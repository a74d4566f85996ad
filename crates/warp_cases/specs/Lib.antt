pub mod Timelines
