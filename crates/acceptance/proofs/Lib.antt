-- The laws of accepting a code.
pub mod Acceptance
pub mod Taken
