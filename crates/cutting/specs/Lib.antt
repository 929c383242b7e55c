-- What the cutting functions mean.
pub mod Cutting
