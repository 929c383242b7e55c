-- The chosen cycle lengths, and what the functions of this crate ask of lent slices and leave in them.
pub mod LandauLengths
pub mod Lengths
