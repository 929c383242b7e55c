-- The laws of filling a buffer line by line.
pub mod FilledPieces
