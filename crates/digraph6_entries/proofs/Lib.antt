-- The laws that the entries cite.
pub mod LinesIn
