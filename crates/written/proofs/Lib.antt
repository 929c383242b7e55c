-- The laws of writing, in plain terms; the proofs of the functions cite them.
pub mod Placing
