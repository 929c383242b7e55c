-- The laws of reading a code, in plain terms; the proofs of the functions cite them.
pub mod Prefix
pub mod KeptShape
pub mod Whole
pub mod Kept
pub mod Sound
pub mod Checked
