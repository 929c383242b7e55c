-- The laws that the functions of this crate rest on.
pub mod Relatives
