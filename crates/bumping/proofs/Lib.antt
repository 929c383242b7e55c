-- The laws of this layer, in plain terms; the proofs of the functions cite them.
pub mod Advancing
pub mod Turns
pub mod Scanning
