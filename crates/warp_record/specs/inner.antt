-- Definitions for loops and private functions alone. No contract of a public call cites one.
pub mod Behind
pub mod Eight
pub mod Front
