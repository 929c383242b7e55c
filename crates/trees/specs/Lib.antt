-- What the functions of this crate mean beyond the definitions of mapping patterns, and what they ask.
pub mod Beginnings
pub mod HeldNeighbours
pub mod Codes
