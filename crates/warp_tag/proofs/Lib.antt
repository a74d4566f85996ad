pub mod Lists
pub mod Tags
pub mod Names
pub mod Tables
pub mod Known
pub mod Payloads
pub mod Forms
