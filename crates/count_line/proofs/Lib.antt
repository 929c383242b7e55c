-- The laws of the line that is read.
pub mod Inputs
