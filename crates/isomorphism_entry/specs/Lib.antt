-- What the parts of the entry ask of two tables.
pub mod SameLength
