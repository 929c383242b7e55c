-- The laws of the size list before and of the components that fill it, in plain terms; the proofs of the functions cite them.
pub mod Lowering
pub mod LastTrees
