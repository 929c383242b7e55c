-- The laws that the functions of this crate cite.
pub mod Paged
