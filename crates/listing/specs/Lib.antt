-- The pieces of the output.
pub mod Pieces
