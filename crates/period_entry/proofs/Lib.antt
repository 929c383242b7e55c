-- The laws of the period's functions, in plain terms; their proofs cite them.
pub mod SmallTables
