-- The laws of cutting, in plain terms; the proofs of the functions cite them.
pub mod Cutting
