-- What the functions that read a line answer.
pub mod LineResults
