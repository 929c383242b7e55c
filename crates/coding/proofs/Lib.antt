-- The laws that the functions from tables to systems cite.
pub mod Growing
pub mod Circling
pub mod TurnedLeast
pub mod Collecting
pub mod CodedSizes
