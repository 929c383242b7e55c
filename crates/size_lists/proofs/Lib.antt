-- The laws of size lists in memory, in plain terms; the proofs of the functions cite them.
pub mod Growing
pub mod Filling
