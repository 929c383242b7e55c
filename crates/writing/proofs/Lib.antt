-- The laws of measuring and writing, in plain terms; the proofs of the functions cite them.
pub mod Locating
pub mod Placements
pub mod CanonicalHeld
