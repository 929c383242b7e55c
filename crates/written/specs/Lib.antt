-- What the writing functions mean.
pub mod Putting
