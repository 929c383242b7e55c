-- The laws that the functions of this crate cite.
pub mod Stepping
pub mod Following
