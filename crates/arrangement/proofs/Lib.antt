-- The laws that the functions of this crate cite.
pub mod Planting
pub mod Inserting
pub mod ComponentPlaces
pub mod ComponentInserting
