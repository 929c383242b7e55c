-- The laws that the entries cite.
pub mod Combined
