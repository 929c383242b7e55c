-- What the functions from tables to systems mean.
pub mod Writing
pub mod Systems
