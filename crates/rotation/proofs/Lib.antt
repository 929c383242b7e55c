-- The laws of the search for the least rotation, in plain terms.
pub mod LeastTurn
