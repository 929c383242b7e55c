-- The laws that the functions of this crate cite.
pub mod Repeating
pub mod Retreating
pub mod Falling
