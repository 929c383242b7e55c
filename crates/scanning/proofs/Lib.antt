-- The laws that the functions of this crate rest on.
pub mod Scanning
pub mod Ascending
pub mod Descending
