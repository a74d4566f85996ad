pub mod Tab
