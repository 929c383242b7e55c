-- What the functions of this crate ask of lent slices, and what their answers mean.
pub mod Writable
pub mod Passed
pub mod HeldParts
