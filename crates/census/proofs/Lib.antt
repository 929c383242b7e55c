-- The laws of the census's walks, counts and rows, in plain terms; the proofs of the functions cite them.
pub mod CensusRows
pub mod Counting
pub mod Walking
pub mod Clearing
pub mod RowsListed
pub mod Filling
pub mod Points
