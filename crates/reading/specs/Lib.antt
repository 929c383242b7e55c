-- What the reading functions mean.
pub mod Shape
