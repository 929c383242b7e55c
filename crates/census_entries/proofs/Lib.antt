-- The laws that the entries cite.
pub mod Columns
pub mod Decisions
