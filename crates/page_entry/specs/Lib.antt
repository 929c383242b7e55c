-- What the parts of the entry ask.
pub mod HeldCopies
