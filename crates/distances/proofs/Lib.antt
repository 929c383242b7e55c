-- The laws of distances, in plain terms; the proofs of the functions cite them.
pub mod Noting
