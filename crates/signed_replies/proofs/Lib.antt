-- What the proofs of the numbers share, and what a caller can tell from them.
pub mod Fitting
pub mod Telling
