-- What a census entry decides before it writes, and its rows in two columns.
pub mod Columns
pub mod Decisions
