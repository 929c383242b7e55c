-- What the functions of this crate are asked for.
pub mod FittingMultiples
